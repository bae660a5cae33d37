-- A line that declares a name: what it does to the state and to the table of names. A kind of name is known by the code of the first name
-- of that kind: a test, a relation or a let. (Document 01, "The query".)
-- Assumes nothing.
use Rattle.std.specs.Prelude.{Result, Ok, Err, ℕ, ◌+◌, ◌<◌, ◌≡◌, false, cond, List, [], ◌∷◌, ◌++◌, eqb, leb, length}
use Rattle.std.proofs.Math.Option.{none}
use Rattle.claims.specs.Bytes.{same}
use Rattle.claims.specs.Tree.{Name, Line}
use Rattle.claims.specs.Names.{uses, first_slip, declares?, kind_of}
use Rattle.claims.specs.Query.{Query, each, tests, relations, lets, test_names, relation_names, claims_of}
use Rattle.claims.specs.Reading.{crowded}
use Rattle.codes.specs.Codes.{code_of, A-TEST, A-RELATION, A-LET, MOST-TESTS, MOST-RELATIONS, MOST-LETS}
use Rattle.read_tokens.specs.declared.Key.{Key}
use Rattle.read_names.specs.Keys.{entered}
use Rattle.read_bodies.specs.Bodies.{Named}
use Rattle.refusals.specs.declared.Reason.{Reason}
use Rattle.refusals.specs.declared.Reason.TheVariants.{TooMany}
use Rattle.read_declarations.specs.declared.LineState.{LineState}

-- how many names of the kind the state counts, how many the lines of q declare, and how many there may be
unfoldable pub count_of : ℕ → LineState → ℕ
count_of of st = cond (eqb of A-TEST) st.tests (cond (eqb of A-RELATION) st.relations st.lets)

unfoldable pub number_of : ℕ → Query → ℕ
number_of of q = cond (eqb of A-TEST) (length (tests q)) (cond (eqb of A-RELATION) (length (relations q)) (length (each lets q)))

unfoldable pub most_of : ℕ → ℕ
most_of of = cond (eqb of A-TEST) MOST-TESTS (cond (eqb of A-RELATION) MOST-RELATIONS MOST-LETS)

-- 1 for two equal numbers, 0 for others
abbrev pub one_if : ℕ → ℕ → ℕ
one_if a b = cond (eqb a b) 1 0

-- the state with a name more of the kind, and u codes
unfoldable pub one_more : ℕ → ℕ → LineState → LineState
one_more of u st =
    record {
      used = u;
      names = st.names + 1;
      tests = st.tests + one_if of A-TEST;
      relations = st.relations + one_if of A-RELATION;
      lets = st.lets + one_if of A-LET;
      claimed = st.claimed;
    }

-- a line that declares a name of the kind, by its check
unfoldable pub declared_read : ℕ → LineState → Result ℕ Reason → Result LineState Reason
declared_read of st (Ok u) = cond (leb (most_of of) (count_of of st)) (Err TooMany) (Ok (one_more of u st))
declared_read of st (Err w) = Err w

-- the table of names behind it, where the name has the key k
unfoldable pub declared_names : Key → ℕ → LineState → Result ℕ Reason → List ℕ → List ℕ
declared_names k of st (Ok u) names = cond (leb (most_of of) (count_of of st)) names (entered names st.names k (of + count_of of st))
declared_names k of st (Err w) names = names

-- what there is to know of a line that declares the name w of the kind, and no other
pub record DeclaresName (of : ℕ) (w : Name) (l : Line) : Type 0 where
  pub code : 0 < of
  pub tests : length (test_names l) ≡ one_if of A-TEST
  pub relations : length (relation_names l) ≡ one_if of A-RELATION
  pub lets : length (lets l) ≡ one_if of A-LET
  pub one : one_if of A-TEST + one_if of A-RELATION + one_if of A-LET ≡ 1
  pub unclaimed : claims_of l ≡ []
  pub crowds : (q : Query) → crowded q l ≡ leb (most_of of) (number_of of q)
  pub others : (v : Name) → same w v ≡ false → declares? l v ≡ none
  pub coded : (q : Query) → kind_of q w ≡ none → code_of (q ++ (l ∷ [])) w ≡ of + number_of of q
  pub fresh : (q : Query) → first_slip q (uses l) ≡ none → kind_of q w ≡ none

-- the line declares the name that stands next, as one of the kind
abbrev pub DeclaresNext : ℕ → List ℕ → ℕ → Line → Type 0
DeclaresNext of s at l = (w : Name) × DeclaresName of w l × Named s at w

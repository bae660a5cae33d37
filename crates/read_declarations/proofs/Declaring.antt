-- A line that declares a name: what the code answers is what the definitions say; and a test, a relation and a let are lines of this sort.
-- Assumes nothing.
use Prim.Native.Nat.{ℕ, ◌+◌, ◌≤◌, ◌<◌}
use native.Mathlib.Omega.{arith}
use mathlib.Core.Path.{◌≡◌, refl, sym, ap, ◌∙◌, subst⁻¹}
use mathlib.Core.List.{List, []}
use borrow.Author.Tests.{le-leb, lt-leb}
use Rattle.std.specs.Prelude.{Result, Ok, Err}
use Rattle.claims.specs.Tree.{Name, Tree, Line, test_line, rel_line, let_line}
use Rattle.claims.specs.Names.{tree_uses, uses}
use Rattle.claims.specs.Query.{lets, test_names, relation_names, claims_of}
use Rattle.claims.specs.Reading.{crowded}
use Rattle.codes.proofs.NameKinds.{code_test, code_relation, code_let, other_test, other_relation, other_let}
use Rattle.read_tokens.specs.declared.Key.{Key}
use Rattle.read_names.specs.Keys.{entered}
use Rattle.read_bodies.specs.Bodies.{Declares, DeclaresLet}
use Rattle.refusals.specs.declared.Reason.{Reason}
use Rattle.refusals.specs.declared.Reason.TheVariants.{TooMany}
use Rattle.read_declarations.specs.declared.LineState.{LineState}
use Rattle.read_declarations.specs.inner.Declaring.{count_of, number_of, most_of, one_if, one_more, declared_read, declared_names, DeclaresName, DeclaresNext}
use Rattle.read_declarations.proofs.Fates.{fresh_name}

-- the state with a name more, by three numbers that are 1 or 0
pub one_more_is : (of u : ℕ) (st : LineState) (i j k : ℕ) → i ≡ one_if of 16 → j ≡ one_if of 32 → k ≡ one_if of 64
    → record { used = u; names = st.names + 1; tests = st.tests + i; relations = st.relations + j; lets = st.lets + k; claimed = st.claimed }
    ≡ one_more of u st
unfolding one_more
one_more_is of u st i j k e f g = rw (e, f, g)

-- the answer and the table behind a line with the check x, which is c
module _ (of : ℕ) (st : LineState) (key : Key) (names : List ℕ) (c x : Result ℕ Reason) (checks : x ≡ c) where
  abbrev Answered : Result LineState Reason → List ℕ → Type 0
  Answered l names' = (l ≡ declared_read of st c) × (names' ≡ declared_names key of st c names)

  pub answer_faulty : (w : Reason) → x ≡ Err w → Answered (Err w) names
  unfolding declared_read declared_names
  answer_faulty w f = let e : c ≡ Err w = sym checks ∙ f in (rw e, rw e)

  module _ (u : ℕ) (f : x ≡ Ok u) (m n : ℕ) (me : m ≡ most_of of) (ne : n ≡ count_of of st) where
    pub answer_crowd : m ≤ n → Answered (Err TooMany) names
    unfolding declared_read declared_names
    answer_crowd h =
        let e : c ≡ Ok u = sym checks ∙ f in
        let g = le-leb (most_of of) (count_of of st) (omega arith) in
        (rw (e, g), rw (e, g))

    pub answer_taken : n < m → (next : LineState) → next ≡ one_more of u st → (k : Key) → k ≡ key → (names' : List ℕ)
        → names' ≡ entered names st.names k (of + n) → Answered (Ok next) names'
    unfolding declared_read declared_names
    answer_taken h next i k ke names' j =
        let e : c ≡ Ok u = sym checks ∙ f in
        let g = lt-leb (most_of of) (count_of of st) (omega arith) in
        (rw (e, g) (ap Ok i), rw (e, g, ← ne, ← ke) j)

-- the three kinds of lines that declare a name
pub test_names_lem : (w : Name) → DeclaresName 16 w (test_line w)
unfolding test_names relation_names lets claims_of crowded uses number_of most_of
test_names_lem w =
    record {
      code = omega arith;
      tests = refl;
      relations = refl;
      lets = refl;
      one = refl;
      unclaimed = refl;
      crowds = λ q. refl;
      others = λ v. other_test w v;
      coded = λ q. code_test q w;
      fresh = λ q. fresh_name q w [];
    }

pub relation_names_lem : (w : Name) → DeclaresName 32 w (rel_line w)
unfolding test_names relation_names lets claims_of crowded uses number_of most_of
relation_names_lem w =
    record {
      code = omega arith;
      tests = refl;
      relations = refl;
      lets = refl;
      one = refl;
      unclaimed = refl;
      crowds = λ q. refl;
      others = λ v. other_relation w v;
      coded = λ q. code_relation q w;
      fresh = λ q. fresh_name q w [];
    }

let_names_lem : (w : Name) (t : Tree) → DeclaresName 64 w (let_line w t)
unfolding test_names relation_names lets claims_of crowded uses number_of most_of
let_names_lem w t =
    record {
      code = omega arith;
      tests = refl;
      relations = refl;
      lets = refl;
      one = refl;
      unclaimed = refl;
      crowds = λ q. refl;
      others = λ v. other_let w v t;
      coded = λ q. code_let q w t;
      fresh = λ q. fresh_name q w (tree_uses t);
    }

-- the name is that which stands next
pub next_declared : (kind : Name → Line) (of : ℕ) → ((w : Name) → DeclaresName of w (kind w)) → (s : List ℕ) (at : ℕ) (l : Line)
    → Declares kind s at l → DeclaresNext of s at l
next_declared kind of d s at l (w, e, n) = (w, subst⁻¹ (DeclaresName of w) e (d w), n)

pub next_let : (s : List ℕ) (at : ℕ) (l : Line) → DeclaresLet s at l → DeclaresNext 64 s at l
next_let s at l (w, t, e, n) = (w, subst⁻¹ (DeclaresName 64 w) e (let_names_lem w t), n)

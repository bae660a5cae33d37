-- The reader's state between two lines: what is known of the lines read so far, and what the reader of a line promises of the next.
-- (Document 01, "The query".)
-- Assumes nothing.
use Rattle.std.specs.Prelude.{Result as Returned, Ok, Err, ℕ, zero, suc, ◌+◌, ◌≤◌, ◌<◌, ◌≡◌, Bool, true, false, List, [], ◌∷◌, ◌++◌, length}
use Rattle.std.proofs.Math.Option.{some, none}
use Rattle.std.proofs.lemmas.List.Edits.{sets}
use Rattle.kat.specs.Lists.{every}
use Rattle.claims.specs.Bytes.{RawLine}
use Rattle.claims.specs.Tokens.{word_like}
use Rattle.claims.specs.Tree.{Name, Line}
use Rattle.claims.specs.Query.{Query, each, tests, relations, lets}
use Rattle.claims.specs.Lines.{line}
use Rattle.claims.specs.Refusals.{after_claim, Result, ok, refuse}
use Rattle.claims.specs.Reading.{claim_of, read_line}
use Rattle.memory.specs.Memory.{zeros}
use Rattle.codes.specs.Codes.{code_of, query_codes, MOST-TESTS, MOST-RELATIONS, MOST-LETS}
use Rattle.read_tokens.specs.Scan.{word_byte, key_of}
use Rattle.read_names.specs.Keys.{find_in}
use Rattle.read_declarations.specs.declared.LineState.{LineState}
use Rattle.refusals.specs.declared.Reason.{Reason}
use Rattle.refusals.specs.Causes.{cause_of}

-- line n after the lines of q: nothing may stand behind a claim
unfoldable pub line_fate : Query → ℕ → RawLine → Result Line
line_fate q n l = elim (claim_of q) [ some c ↦ refuse after_claim n | none ↦ read_line q n (line l) ]

-- there is a claim
abbrev pub has_claim : Query → Bool
has_claim q = elim (claim_of q) [ some c ↦ true | none ↦ false ]

-- the state after the lines of q: the codes of q are written over the start of the array, the numbers count what q declares
pub record After (q : Query) (st : LineState) (before out : List ℕ) : Type 0 where
  pub used : st.used ≡ length (query_codes q)
  pub written : out ≡ sets before 0 (query_codes q)
  pub tests : st.tests ≡ length (tests q)
  pub relations : st.relations ≡ length (relations q)
  pub lets : st.lets ≡ length (each lets q)
  pub names : st.names ≡ st.tests + st.relations + st.lets
  pub claimed : st.claimed ≡ has_claim q

-- no more is declared than may be
pub record Small (st : LineState) : Type 0 where
  pub tests : st.tests ≤ MOST-TESTS
  pub relations : st.relations ≤ MOST-RELATIONS
  pub lets : st.lets ≤ MOST-LETS
  pub names : st.names ≤ 54

-- n whole entries, each with a code that is not 0
abbrev pub Entries : ℕ → List ℕ → Type 0
Entries zero names = Unit {0}
Entries (suc n) [] = ⊥
Entries (suc n) (h ∷ []) = ⊥
Entries (suc n) (h ∷ l ∷ []) = ⊥
Entries (suc n) (h ∷ l ∷ c ∷ names) = (0 < c) × Entries n names

-- the table of names: a name is found in its n entries with the code that the lines of q give it, and with 0 where they declare it not
pub record Tabled (names : List ℕ) (n : ℕ) (q : Query) : Type 0 where
  pub size : length names ≡ 192
  pub entries : Entries n names
  pub found : (w : Name) → word_like w ≡ true → every word_byte w ≡ true → find_in n names (key_of w) ≡ code_of q w

-- the line is taken after those of q: the state, the table of names and the array are those after it
pub record Took (q : Query) (raw : RawLine) (st next : LineState) (before names out : List ℕ) : Type 0 where
  pub line : Line
  pub fate : (n : ℕ) → line_fate q n raw ≡ ok line
  pub after : After (q ++ (line ∷ [])) next before out
  pub knows : Tabled names next.names (q ++ (line ∷ []))
  pub small : Small next
  pub short : next.used ≤ st.used + length raw.bytes

-- the line is taken, or refused for the reason given
abbrev pub LineSays : Query → RawLine → LineState → List ℕ → List ℕ → List ℕ → Returned LineState Reason → Type 0
LineSays q raw st before names out (Ok next) = Took q raw st next before names out
LineSays q raw st before names out (Err c) = (n : ℕ) → line_fate q n raw ≡ refuse (cause_of c) n

-- a refused line leaves the table of names as it was
abbrev pub KeepsNames : Returned LineState Reason → List ℕ → List ℕ → Type 0
KeepsNames (Ok next) names names_after = Unit {0}
KeepsNames (Err c) names names_after = names_after ≡ names

-- a refused line leaves no code, of its own or of the lines before it
abbrev pub LeavesNone : Returned LineState Reason → List ℕ → Type 0
LeavesNone (Ok next) out = Unit {0}
LeavesNone (Err c) out = out ≡ zeros 4096

-- so it is after the lines of every query, where the state, the table and the array are those after them
abbrev pub ReadsLine : RawLine → LineState → List ℕ → List ℕ → Returned LineState Reason → List ℕ → List ℕ → Type 0
ReadsLine raw st names out r names_after out_after =
    LeavesNone r out_after
    × KeepsNames r names names_after
    × ((q : Query) (before : List ℕ) → After q st before out → Tabled names st.names q → LineSays q raw st before names_after out_after r)

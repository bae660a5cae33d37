-- What the readers of the line kinds leave behind. (Document 01, "The query" and "Refusals with an example each".) What stands behind a
-- line's first word is read whole, and its codes are written, before the line's end and its names are judged.
-- Assumes nothing.
use Rattle.std.specs.Prelude.{Result as Returned, Ok, Err, ℕ, zero, suc, ◌+◌, ◌-◌, ◌≤◌, ◌≡◌, Bool, true, false, cond, ◌&&◌, ◌||◌, List, [], ◌∷◌, ◌++◌, eqb, length, drop}
use Rattle.claims.specs.Tokens.{Token as Piece, tokens}
use Rattle.claims.specs.Grammar.{Found, got, wrong, and_then}
use Rattle.claims.specs.Tree.{Line}
use Rattle.claims.specs.Lines.{Choice, at_end}
use Rattle.claims.specs.Query.{Query}
use Rattle.claims.specs.Reading.{read_line}
use Rattle.claims.specs.Refusals.{Result, ok, refuse}
use Rattle.read_tokens.specs.declared.Key.{Key}
use Rattle.read_tokens.specs.Scan.{key_of}
use Rattle.read_names.specs.declared.Slip.{Slip}
use Rattle.read_names.specs.declared.Slip.TheVariants.{Clean, Unknown, OtherKind, Twice, Reserved}
use Rattle.read_names.specs.Keys.{same_key}
use Rattle.read_tests.specs.declared.Place.{Place}
use Rattle.read_tests.specs.declared.Fault.{Fault}
use Rattle.read_tests.specs.declared.Fault.TheVariants.{Wrong, Deep}
use Rattle.refusals.specs.declared.Reason.{Reason}
use Rattle.refusals.specs.declared.Reason.TheVariants.{Notation, TooDeep, UnknownName, WrongKind, DeclaredTwice, ReservedName}
use Rattle.read_declarations.specs.declared.LineState.{LineState}
use Rattle.read_bodies.specs.Bodies.{Bare}
use Rattle.codes.specs.Codes.{A-TEST, A-RELATION, A-LET}
use Rattle.read_declarations.specs.inner.Declaring.{DeclaresNext}
use Rattle.read_declarations.specs.State.{After, Small, Tabled}
use Rattle.refusals.specs.Causes.{cause_of}

-- a line that stands whole and has u codes behind it, by the first slip of its names
unfoldable pub by_slip : ℕ → Slip → Returned ℕ Reason
by_slip u Clean = Ok u
by_slip u Unknown = Err UnknownName
by_slip u OtherKind = Err WrongKind
by_slip u Twice = Err DeclaredTwice
by_slip u Reserved = Err ReservedName

-- the whole line: its end, and then its names
unfoldable pub checked : List ℕ → Bool → Returned Place Fault → Returned ℕ Reason
checked s ended (Ok p) =
    cond (at_end (tokens (drop p.at s)) && ended) (by_slip p.used p.slip) (Err Notation)
checked s ended (Err Wrong) = Err Notation
checked s ended (Err Deep) = Err TooDeep

-- a line that declares nothing, by its check; c says whether it is a claim
unfoldable pub plain_read : LineState → Bool → Returned ℕ Reason → Returned LineState Reason
plain_read st c (Ok u) =
    Ok (record { used = u; names = st.names; tests = st.tests; relations = st.relations; lets = st.lets; claimed = st.claimed || c })
plain_read st c (Err w) = Err w

-- a line as the notation reads it, by what was found behind its first word
unfoldable pub whole_line : Bool → Found Line → Found Line
whole_line ended x = and_then x (λ l us. elim (at_end us && ended) [ true ↦ got l [] | false ↦ wrong ])

-- the line is taken after those of q, with the fate that is given for it
pub record Takes (fate : ℕ → Result Line) (q : Query) (next : LineState) (most : ℕ) (before names out : List ℕ) : Type 0 where
  pub line : Line
  pub fated : (n : ℕ) → fate n ≡ ok line
  pub after : After (q ++ (line ∷ [])) next before out
  pub knows : Tabled names next.names (q ++ (line ∷ []))
  pub small : Small next
  pub short : next.used ≤ most

abbrev pub KindSays : (ℕ → Result Line) → Query → ℕ → List ℕ → List ℕ → List ℕ → Returned LineState Reason → Type 0
KindSays fate q most before names out (Ok next) = Takes fate q next most before names out
KindSays fate q most before names out (Err c) = (n : ℕ) → fate n ≡ refuse (cause_of c) n

-- what stands from `at` on is a line as D reads it, after the lines of every query whose state, table and codes these are
abbrev pub KindOutcome : (List Piece → Found Line) → List ℕ → ℕ → Bool → LineState → List ℕ → List ℕ → Returned LineState Reason → List ℕ → List ℕ → Type 0
KindOutcome D s at ended st names out r names_after out_after =
    (q : Query) (before : List ℕ) → After q st before out → Tabled names st.names q
    → KindSays (λ n. read_line q n (whole_line ended (D (tokens (drop at s))))) q (st.used + (length s - at) + 1) before names_after out_after r

-- the place of the first word with the key k among those that the choices name; their number, if there is none
unfoldable pub kind_place : List Choice → Key → ℕ
kind_place [] k = 0
kind_place (c ∷ cs) k = cond (same_key (key_of c.says) k) 0 (suc (kind_place cs k))

-- what the nth choice reads
unfoldable pub reads_at : List Choice → ℕ → List Piece → Found Line
reads_at [] n ts = wrong
reads_at (c ∷ cs) zero ts = c.reads ts
reads_at (c ∷ cs) (suc n) ts = reads_at cs n ts

-- the sort of line that the nth line word begins: it declares a test, a relation or a let, or it declares nothing; the word with number 7
-- begins the claim
abbrev pub SortOf : ℕ → List ℕ → ℕ → Line → Type 0
SortOf zero s at l = DeclaresNext A-TEST s at l
SortOf (suc zero) s at l = DeclaresNext A-RELATION s at l
SortOf (suc (suc zero)) s at l = DeclaresNext A-LET s at l
SortOf (suc (suc (suc n))) s at l = Bare (eqb (suc (suc (suc n))) 7) l

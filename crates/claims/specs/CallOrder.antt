-- The ways out of a call, in plain words: what a search or a check refuses after the reading, and in which order. (Document 01,
-- "Refusals with an example each".)
-- Assumes nothing.
use Rattle.std.specs.Prelude.{ℕ, ◌≤◌, ◌<◌, ◌≡◌, ◌⊎◌, Bool, false, List, length}
use Rattle.notation.specs.Tree.{Claim}
use Rattle.notation.specs.Query.{Query}
use Rattle.notation.specs.Refusals.{spent_allowance, Refusal, ok, refused, refuse, Cause, sheet_field, does_not_pass}
use Rattle.notation.specs.Reading.{read}
use Rattle.notation.specs.Sides.{Decision, decision}
use Rattle.claims.specs.Calls.{Given, searched, Asked, Lent, needed_records, needed_words, Slot}
use Rattle.notation.specs.RefusalOrder.{Accepted}
use Rattle.claims.specs.SheetReading.{Said}
use Rattle.claims.specs.SheetWriting.{MaySay, part_bytes, WrongSheetField}
use Rattle.verdicts.specs.Passing.{passes}
use Rattle.claims.specs.GraphBytes.{Ranges}

-- what a call asks about, for a query with its claim
abbrev pub asked_as : Query → Claim → Asked
asked_as q c = record { query = q; claim = c; decided = decision q c }

-- the decision of an accepted query
abbrev pub sought : {bs : List ℕ} {q : Query} → Accepted bs q → Decision
sought {bs} {q} a = decision q a.claim

-- allowance and memory are as refusal 9 asks
pub record Ready (D : Decision) (allowance : ℕ) (m : Lent) : Type 0 where
  pub some_allowance : 1 ≤ allowance
  pub small_allowance : allowance ≤ 4096
  pub records_enough : needed_records D allowance ≤ length m.records
  pub words_enough : needed_words D allowance ≤ length m.words

-- memory short of the allowance
abbrev pub Short : Decision → ℕ → Lent → Type 0
Short D allowance m = (length m.records < needed_records D allowance) ⊎ (length m.words < needed_words D allowance)

abbrev pub zero_slot : Slot
zero_slot = record { P = 0; S = 0; parent = 0; letter = 0 }

-- the ways out of a search call: refused by the reader, allowance out of range, memory short, allowance spent, buffer short, answered
pub data WayOut (bs : List ℕ) (allowance : ℕ) (m : Lent) : Type 0 where
  unread : (r : Refusal) → read bs ≡ refused r → WayOut bs allowance m
  out : (q : Query) → Accepted bs q → (allowance < 1) ⊎ (4096 < allowance) → WayOut bs allowance m
  short : (q : Query) (a : Accepted bs q) → 1 ≤ allowance → allowance ≤ 4096 → Short (sought a) allowance m → WayOut bs allowance m
  exhausted : (q : Query) (a : Accepted bs q) → Ready (sought a) allowance m
      → searched (sought a) allowance ≡ refuse spent_allowance 0 → WayOut bs allowance m
  unwritten : (q : Query) (a : Accepted bs q) → Ready (sought a) allowance m
      → (g : Given) → searched (sought a) allowance ≡ ok g → length m.buffer < length g.sheet → WayOut bs allowance m
  written : (q : Query) (a : Accepted bs q) → Ready (sought a) allowance m
      → (g : Given) → searched (sought a) allowance ≡ ok g → length g.sheet ≤ length m.buffer → WayOut bs allowance m

-- the sheet is well-formed, and the test whether it passes gives b
abbrev pub WellFormed : Decision → List ℕ → Bool → Type 0
WellFormed D sheet b = (s : Said D) × (sheet ≡ part_bytes D s) × MaySay D s × (passes D s ≡ b)

-- all that the sheet check refuses
pub data CheckRefused (bs sheet : List ℕ) : Cause → ℕ → Type 0 where
  unread : {c : Cause} {p : ℕ} → read bs ≡ refuse c p → CheckRefused bs sheet c p
  wrong : {k : ℕ} (q : Query) (a : Accepted bs q) → WrongSheetField (sought a) sheet k → CheckRefused bs sheet sheet_field k
  failed : (q : Query) (a : Accepted bs q) → WellFormed (sought a) sheet false → CheckRefused bs sheet does_not_pass 0

-- the ranges of a decision, by which a graph is read
abbrev pub ranges_of : Decision → Ranges
ranges_of D = record { atoms = D.atoms; relations = D.relations }

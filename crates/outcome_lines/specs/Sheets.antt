-- The sheet of an outcome: so many bytes at the start of the buffer as the outcome says, and after an answer of the search this part is the
-- sheet that the search wrote. (Document 01, "Sheet and graph bytes".)
-- Assumes nothing.
use Rattle.std.specs.Prelude.{Ok, Err}
use Rattle.std.specs.Prelude.{ℕ, ◌≡◌, List, take}
use Rattle.claims.specs.Refusals.{ok}
use Rattle.claims.specs.Calls.{Answer, Lent, search_call}
use Rattle.claims.specs.Sheets.{LeavesOwnSheet}
use Rattle.search_outcomes.specs.declared.Verdict.TheVariants.{Proved, Refuted}
use Rattle.search_outcomes.specs.Outcomes.{Outcome, Says, SearchGives}

-- how many bytes the sheet of an outcome has; a refusal has none ("Sheet and graph bytes")
abbrev pub sheet_bytes : Outcome → ℕ
sheet_bytes (Ok (Proved n bytes)) = bytes
sheet_bytes (Ok (Refuted n bytes)) = bytes
sheet_bytes (Err e) = 0

-- the sheet at the start of the buffer ("Sheet and graph bytes")
abbrev pub sheet_of : Outcome → List ℕ → List ℕ
sheet_of r buffer = take (sheet_bytes r) buffer

-- the outcome is an answer, no refusal ("Refusals with an example each")
abbrev pub Answers : Outcome → Type 0
Answers (Ok (Proved n bytes)) = Unit {0}
Answers (Ok (Refuted n bytes)) = Unit {0}
Answers (Err e) = ⊥

-- the call has the answer that the outcome says, and leaves the answer's own sheet at the start of the buffer, past which the buffer is as it
-- was; the outcome's sheet is that one ("Refusals with an example each")
pub record OwnSheet (text : List ℕ) (allowance : ℕ) (before after : Lent) (r : Outcome) : Type 0 where
  pub answer : Answer
  pub found : (search_call text allowance before).result ≡ ok answer
  pub says : Says (ok answer) r
  pub leaves : LeavesOwnSheet text allowance answer before.buffer after.buffer
  pub part : sheet_of r after.buffer ≡ leaves.sheet

-- every answer of the search has its own sheet ("Refusals with an example each")
abbrev pub OwnSheets : Type 0
OwnSheets =
    (text : List ℕ) (allowance : ℕ) (before after : Lent) (r : Outcome) → SearchGives text allowance before r after → Answers r
    → OwnSheet text allowance before after r

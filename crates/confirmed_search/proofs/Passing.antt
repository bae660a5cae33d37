-- The own sheet of every answer of the search (outcome_lines' `own_sheets`) passes as what the search answered.
-- Assumes nothing.
use Prim.Native.Nat.{ℕ}
use mathlib.Core.Path.{◌≡◌}
use mathlib.Core.List.{List}
use Rattle.claims.specs.Refusals.{ok}
use Rattle.claims.specs.Calls.{Lent, check_call}
use Rattle.claims.specs.Sheets.{passed_as}
use Rattle.claims.proofs.Sheets.{written_sheet_passes}
use Rattle.search_outcomes.specs.Outcomes.{Outcome}
use Rattle.outcome_lines.specs.Sheets.{OwnSheet}
use Rattle.outcome_lines.proofs.Sheets.{answer_allowed}

pub own_sheet_passes : (text : List ℕ) (allowance : ℕ) (before after : Lent) (r : Outcome) (own : OwnSheet text allowance before after r)
    → check_call text own.leaves.sheet ≡ ok (passed_as own.answer)
own_sheet_passes text allowance before after r own =
    let l = own.leaves in
    written_sheet_passes text l.asks l.accepted allowance (answer_allowed text allowance before own.answer own.found)
    (record { answer = own.answer; sheet = l.sheet }) l.own

-- The third demand holds of the calls: from what a passing sheet is evidence of (`sheet`'s laws), and from each answer's own sheet, which
-- passes as what the search answered.
-- Assumes nothing.
use Rattle.std.specs.Prelude.{Ok, Err}
use mathlib.Core.Path.{◌≡◌, sym, subst}
use Rattle.claims.specs.Refusals.{Result, ok}
use Rattle.claims.specs.Calls.{Answer, proved_with, refuted_by, Passed}
use Rattle.claims.specs.Sheets.{passed_as}
use Rattle.search_outcomes.specs.declared.Verdict.TheVariants.{Proved, Refuted}
use Rattle.search_outcomes.specs.Outcomes.{Outcome, Says as SaysAnswer}
use Rattle.sheet_checked.specs.declared.Checked.{Checked}
use Rattle.sheet_checked.specs.declared.Checked.TheVariants.{Proved as PassesProved, Refuted as PassesRefuted, Refused}
use Rattle.sheet_checked.specs.Checks.{Says}
use Rattle.sheet.proofs.Evidence.{passes_proved, passes_refuted}
use Rattle.confirmed_search.specs.ThirdDemand.{Confirms, ThirdDemand}
use Rattle.outcome_lines.specs.Sheets.{OwnSheet}
use Rattle.outcome_lines.proofs.Sheets.{own_sheets}
use Rattle.confirmed_search.proofs.Passing.{own_sheet_passes}

-- an outcome is confirmed by what the sheet of its answer passes as
confirms : (ans : Answer) (r : Outcome) → SaysAnswer (ok ans) r → (c : Checked) → Says (ok (passed_as ans)) c → Confirms r c
confirms (proved_with n) (Ok (Proved m bytes)) s PassesProved p = tt
confirms (refuted_by w) (Ok (Refuted m bytes)) s PassesRefuted p = tt
confirms (refuted_by w) (Ok (Refuted m bytes)) s PassesProved p = elim p [ ]
confirms (refuted_by w) (Ok (Refuted m bytes)) s (Refused _ _) p = elim p [ ]
confirms (refuted_by w) (Err _) s c p = elim s [ ]
confirms (refuted_by w) (Ok (Proved m bytes)) s c p = elim s [ ]
confirms (proved_with n) (Ok (Refuted m bytes)) s c p = elim s [ ]
confirms (proved_with n) (Err _) s c p = elim s [ ]
confirms (proved_with n) (Ok (Proved m bytes)) s PassesRefuted p = elim p [ ]
confirms (proved_with n) (Ok (Proved m bytes)) s (Refused _ _) p = elim p [ ]

-- and the check has such an answer
answered : (ans : Answer) {x : Result Passed} → ok (passed_as ans) ≡ x → (c : Checked) × Says x c
answered (proved_with n) e = (PassesProved, subst (λ x. Says x PassesProved) e tt)
answered (refuted_by w) e = (PassesRefuted, subst (λ x. Says x PassesRefuted) e tt)

-- the third demand
pub third_demand : ThirdDemand
third_demand =
    record {
      proved = passes_proved;
      refuted = passes_refuted;
      written = λ text allowance before after r gives answers.
          let own : OwnSheet text allowance before after r = own_sheets text allowance before after r gives answers in
          let as_said = own_sheet_passes text allowance before after r own in
          record {
            sheet = own.leaves.sheet;
            stands = own.leaves.leaves;
            part = own.part;
            answered = answered own.answer (sym as_said);
            passes = λ c says. confirms own.answer r own.says c (subst (λ x. Says x c) as_said says);
          };
    }

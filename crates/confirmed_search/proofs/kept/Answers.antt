-- `confirmed_search::kept` meets its contract. By the case of the outcome; what the check says of the sheet is `check_call`.
-- Assumes nothing.
use Rattle.confirmed_search.proofs.Confirmed.{kept_proved_by, kept_refuted_by, kept_refused_by}
use Rattle.outcome_lines.proofs.OutcomeLines.{by_verdict}
use borrow.Author.Rules.{rules}
use Rattle.confirmed_search.proofs.kept.Goals as goal

pub returns-in-Proved : goal.returns-in-Proved
returns-in-Proved c =
    let e = by_verdict c.in-Ok.is c.in-Proved.is in
    kept_proved_by _ _ _ _ e _ c.check.ensures.says c.kept_proved.ensures

pub returns-in-Refuted : goal.returns-in-Refuted
returns-in-Refuted c =
    let e = by_verdict c.in-Ok.is c.in-Refuted.is in
    kept_refuted_by _ _ _ _ e _ c.check-in-Refuted.ensures.says c.kept_refuted.ensures

pub returns-in-Err : goal.returns-in-Err
returns-in-Err c = kept_refused_by _ _ _ c.in-Err.is

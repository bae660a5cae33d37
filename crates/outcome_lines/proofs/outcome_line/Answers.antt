-- `outcome_lines::outcome_line` meets its contract. By the case of the outcome.
-- Assumes nothing.
use Rattle.outcome_lines.proofs.OutcomeLines.{by_verdict, as_outcome, as_refuted}
use borrow.Author.Rules.{rules}
use Rattle.outcome_lines.proofs.outcome_line.Goals as goal

pub returns-in-Proved : goal.returns-in-Proved
returns-in-Proved c =
    let e = by_verdict c.in-Ok.is c.in-Proved.is in
    as_outcome _ e c.proved_line.ensures

pub returns-in-Refuted : goal.returns-in-Refuted
returns-in-Refuted c =
    let e = by_verdict c.in-Ok.is c.in-Refuted.is in
    as_refuted _ _ e c.word_in.ensures c.refuted_line.ensures

pub returns-in-Err : goal.returns-in-Err
returns-in-Err c = as_outcome _ c.in-Err.is c.refusal_line.ensures

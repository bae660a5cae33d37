-- `outcome_lines::sheet_bytes` meets its contract. By the case of the outcome.
-- Assumes nothing.
use mathlib.Core.Path.{sym, ap}
use Rattle.outcome_lines.specs.Sheets.{sheet_bytes}
use Rattle.outcome_lines.proofs.OutcomeLines.{by_verdict}
use borrow.Author.Rules.{rules}
use Rattle.outcome_lines.proofs.sheet_bytes.Goals as goal

pub returns-in-Proved : goal.returns-in-Proved
returns-in-Proved c =
    let e = by_verdict c.in-Ok.is c.in-Proved.is in
    ap sheet_bytes (sym e)

pub returns-in-Refuted : goal.returns-in-Refuted
returns-in-Refuted c =
    let e = by_verdict c.in-Ok.is c.in-Refuted.is in
    ap sheet_bytes (sym e)

pub returns-in-Err : goal.returns-in-Err
returns-in-Err c = ap sheet_bytes (sym c.in-Err.is)

-- `broken_lines::broken_line` meets its contract. By the case of the judgement.
-- Assumes nothing.
use Rattle.graph.proofs.Judging.{judged_as}
use mathlib.Core.Path.{sym, ap}
use Rattle.broken_lines.specs.BrokenLine.{broken_line}
use Rattle.broken_lines.proofs.broken_line.Goals as goal

pub returns-in-Ok-Holds : goal.returns-in-Ok-Holds
unfolding broken_line
returns-in-Ok-Holds c = ap broken_line (sym (judged_as c.in-Ok-Holds.is (rw c.in-Ok-Holds.is at c.in-Ok-Holds.field-0-is)))

pub returns-in-Ok-BreaksAt : goal.returns-in-Ok-BreaksAt
unfolding broken_line
returns-in-Ok-BreaksAt c = ap broken_line (sym (judged_as c.in-Ok-BreaksAt.is (rw c.in-Ok-BreaksAt.is at c.in-Ok-BreaksAt.field-0-is)))

pub returns-in-Ok-BreaksFrom : goal.returns-in-Ok-BreaksFrom
unfolding broken_line
returns-in-Ok-BreaksFrom c = ap broken_line (sym (judged_as c.in-Ok-BreaksFrom.is (rw c.in-Ok-BreaksFrom.is at c.in-Ok-BreaksFrom.field-0-is)))

pub returns-in-Err : goal.returns-in-Err
unfolding broken_line
returns-in-Err c = ap broken_line (sym c.in-Err.is)

-- `judge_line::line` meets its contract. By the case of the judgement.
-- Assumes nothing.
use Rattle.graph.proofs.Judging.{judged_as}
use Rattle.judge_line.proofs.JudgedLaws.{as_judged}
use Rattle.graph.specs.Answers.{result_of}
use Rattle.judge_line.proofs.line.Goals as goal

pub returns-in-Ok-Holds : goal.returns-in-Ok-Holds
unfolding result_of
returns-in-Ok-Holds c = as_judged (judged_as c.in-Ok-Holds.is (rw c.in-Ok-Holds.is at c.in-Ok-Holds.field-0-is)) c.holds_line.ensures

pub returns-in-Ok-BreaksAt : goal.returns-in-Ok-BreaksAt
unfolding result_of
returns-in-Ok-BreaksAt c = as_judged (judged_as c.in-Ok-BreaksAt.is (rw c.in-Ok-BreaksAt.is at c.in-Ok-BreaksAt.field-0-is)) c.event_line.ensures

pub returns-in-Ok-BreaksFrom : goal.returns-in-Ok-BreaksFrom
unfolding result_of
returns-in-Ok-BreaksFrom c = as_judged (judged_as c.in-Ok-BreaksFrom.is (rw c.in-Ok-BreaksFrom.is at c.in-Ok-BreaksFrom.field-0-is)) c.pair_line.ensures

pub returns-in-Err : goal.returns-in-Err
unfolding result_of
returns-in-Err c = as_judged c.in-Err.is c.refusal_line.ensures

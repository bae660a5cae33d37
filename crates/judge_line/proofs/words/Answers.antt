-- `judge_line::words` meets its contract. By the case of the judgement.
-- Assumes nothing.
use Rattle.graph.proofs.Judging.{judged_as}
use Rattle.judge_line.proofs.JudgedLaws.{as_worded}
use Rattle.judge_line.proofs.words.Goals as goal

pub returns-in-Ok-Holds : goal.returns-in-Ok-Holds
returns-in-Ok-Holds c = as_worded _ (judged_as c.in-Ok-Holds.is (rw c.in-Ok-Holds.is at c.in-Ok-Holds.field-0-is)) c.broken_words.ensures

pub returns-in-Ok-BreaksAt : goal.returns-in-Ok-BreaksAt
returns-in-Ok-BreaksAt c = as_worded _ (judged_as c.in-Ok-BreaksAt.is (rw c.in-Ok-BreaksAt.is at c.in-Ok-BreaksAt.field-0-is)) c.broken_words-in-Ok-BreaksAt.ensures

pub returns-in-Ok-BreaksFrom : goal.returns-in-Ok-BreaksFrom
returns-in-Ok-BreaksFrom c = as_worded _ (judged_as c.in-Ok-BreaksFrom.is (rw c.in-Ok-BreaksFrom.is at c.in-Ok-BreaksFrom.field-0-is)) c.broken_words-in-Ok-BreaksFrom.ensures

pub returns-in-Err : goal.returns-in-Err
returns-in-Err c = as_worded _ c.in-Err.is c.refusal.ensures

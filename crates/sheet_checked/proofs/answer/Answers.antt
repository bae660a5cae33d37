-- `sheet_checked::answer` meets its contract: one law for each way out.
-- Assumes nothing.
use Rattle.sheet_checked.proofs.Ended.{ended_followed, ended_proved, ended_refuted, ended_failed}
use Rattle.sheet_checked.proofs.answer.Goals as goal

pub returns-then-next-end : goal.returns-then-next-end
returns-then-next-end c = ended_followed _ _ _ _ _ c.if-next-end.true

pub returns-then-proved : goal.returns-then-proved
returns-then-proved c = ended_proved _ _ _ _ _ c.if-next-end.false c.if-passes.true c.if-proved.true

pub returns-then-passes : goal.returns-then-passes
returns-then-passes c = ended_refuted _ _ _ _ _ c.if-next-end.false c.if-passes.true c.if-proved.false

pub returns : goal.returns
returns c = ended_failed _ _ _ _ _ c.if-next-end.false c.if-passes.false

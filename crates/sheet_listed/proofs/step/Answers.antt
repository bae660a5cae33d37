-- `sheet_listed::step` meets its contract: by whether the letter is the first.
-- Assumes nothing.
use Rattle.sheet_listed.proofs.Ways.{first_step, later_step}
use Rattle.sheet_listed.proofs.step.Goals as goal

pub returns-then-l : goal.returns-then-l
returns-then-l c = first_step _ _ _ _ _ _ _ c.if-l.true (c.begin.ensures.begun 0 0 0)

pub returns : goal.returns
returns c = later_step _ _ _ _ _ _ _ c.if-l.false (c.onward.ensures.grown 0 0 0)

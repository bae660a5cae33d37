-- `dot::is_step` meets its contract. By the tests in their order.
-- Assumes nothing.
use Rattle.dot.proofs.Steps.{step_none, step_other, step_last, step_next}
use Rattle.dot.proofs.is_step.Goals as goal

pub returns-then-word-i : goal.returns-then-word-i
returns-then-word-i c = step_none c.args.word.now _ _ _ _ c.if-word-i.true

pub returns-then-word-i-2 : goal.returns-then-word-i-2
returns-then-word-i-2 c = step_other c.args.word.now _ _ _ _ c.if-word-i.false c.if-word-i-2.true

pub returns-then-from-count : goal.returns-then-from-count
returns-then-from-count c = step_last c.args.word.now _ _ _ _ c.if-word-i.false c.if-word-i-2.false c.if-from-count.true

pub returns : goal.returns
returns c = step_next c.args.word.now _ _ _ _ c.if-word-i.false c.if-word-i-2.false c.if-from-count.false

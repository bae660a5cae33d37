-- `draw_rows::next_event` meets its contract.
-- Assumes nothing.
use Rattle.draw_rows.proofs.Steps.{next_first, next_on}
use Rattle.draw_rows.proofs.next_event.Goals as goal

pub returns-then-x-n : goal.returns-then-x-n
returns-then-x-n c = let a = c.args in next_first a.n a.x c.if-x-n.true

pub returns-else-x-n : goal.returns-else-x-n
returns-else-x-n c = let a = c.args in next_on a.n a.x c.if-x-n.false

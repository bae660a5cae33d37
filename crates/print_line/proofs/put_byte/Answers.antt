-- `print_line::put_byte` meets its contract: one byte where there is room, and else nothing.
-- Assumes nothing.
use Rattle.print_line.proofs.Putting.{puts_one, puts_none}
use Rattle.print_line.proofs.put_byte.Goals as goal

pub returns-then-at-out : goal.returns-then-at-out
returns-then-at-out c = puts_one _ _ _ c.if-at-out.true

pub returns : goal.returns
returns c = puts_none _ _ _ c.if-at-out.false

-- `print_line::put_text` meets its contract. The bytes so far are put; the rest follows one by one.
-- Assumes nothing.
use Rattle.print_line.proofs.Putting.{puts_start, puts_more, puts_whole, puts_length}
use mathlib.Core.Path.{refl}
use native.Mathlib.Omega.{arith}
use Rattle.print_line.proofs.put_text.Goals as goal

pub loop-b-init : goal.loop-b-init
loop-b-init c = (omega arith, puts_start _ _ _ c.least-to.ensures)

pub loop-b-preserved : goal.loop-b-preserved
loop-b-preserved c = (omega arith, puts_more _ _ c.loop-b-test.true c.loop-b.invariant.1 refl c.put_byte-to.ensures)

pub shape_of-out : goal.shape_of-out
shape_of-out c = puts_length c.loop-b.invariant.1

pub returns : goal.returns
returns c = puts_whole _ _ c.loop-b-test.false c.loop-b.invariant.1

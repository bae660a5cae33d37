-- `print_line::put_numbers` meets its contract. The numbers so far are put.
-- Assumes nothing.
use native.Mathlib.Omega.{arith}
use Rattle.print_line.proofs.Putting.{puts_length}
use Rattle.print_line.proofs.Decimals.{puts_numbers_none, puts_numbers_more, puts_numbers_whole}
use Rattle.print_line.proofs.put_numbers.Goals as goal

pub loop-n-init : goal.loop-n-init
loop-n-init c = (omega arith, puts_numbers_none _ _ _ c.least-to.ensures)

pub loop-n-preserved : goal.loop-n-preserved
loop-n-preserved c =
    (omega arith, puts_numbers_more _ _ c.loop-n-test.true c.loop-n.invariant.1 c.wide.ensures.0 c.put_spaced-to.ensures)

pub shape_of-out : goal.shape_of-out
shape_of-out c = puts_length c.loop-n.invariant.1

pub returns : goal.returns
returns c = puts_numbers_whole _ _ c.loop-n-test.false c.loop-n.invariant.1

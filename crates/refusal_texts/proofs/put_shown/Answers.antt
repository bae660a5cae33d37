-- `refusal_texts::put_shown` meets its contract. The bytes so far are put; the rest follows one by one.
-- Assumes nothing.
use native.Mathlib.Omega.{arith}
use Rattle.print_line.proofs.Putting.{puts_length}
use Rattle.refusal_texts.proofs.Pieces.{shown_none, shown_more, shown_whole}
use Rattle.refusal_texts.proofs.put_shown.Goals as goal

pub loop-b-init : goal.loop-b-init
loop-b-init c = (omega arith, shown_none _ _ c.requires)

pub loop-b-preserved : goal.loop-b-preserved
loop-b-preserved c = (omega arith, shown_more _ _ c.loop-b-test.true c.loop-b.invariant.1 c.shown_byte.ensures c.put_byte-to.ensures)

pub shape_of-out : goal.shape_of-out
shape_of-out c = puts_length c.loop-b.invariant.1

pub returns : goal.returns
returns c = shown_whole _ _ c.loop-b-test.false c.loop-b.invariant.1

-- `side_limits::count_at` meets its contract. The invariant: what is left of the expression, added to the sum, is all of it. The measure is what is
-- left of the codes.
-- Assumes nothing.
use native.Mathlib.Omega.{arith}
use Rattle.side_limits.proofs.PlaceSums.{summed_start, summed_more, summed_end, summed_all}
use Rattle.side_limits.proofs.count_at.Goals as goal

pub loop-i-init : goal.loop-i-init
loop-i-init c = summed_start _ _ _

pub returns-then-k-ge-LINE : goal.returns-then-k-ge-LINE
returns-then-k-ge-LINE c = summed_end _ _ _ _ _ c.loop-i.invariant (omega arith) c.if-k-ge-LINE.true

pub loop-i-preserved : goal.loop-i-preserved
loop-i-preserved c = summed_more _ _ _ _ _ c.loop-i.invariant (omega arith) c.if-k-ge-LINE.false _ _ c.word.ensures c.add-sum.ensures

pub returns : goal.returns
returns c = summed_all _ _ _ _ _ c.loop-i.invariant (omega arith)

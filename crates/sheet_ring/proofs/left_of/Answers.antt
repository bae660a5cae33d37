-- `sheet_ring::left_of` meets its contract: P is cells 1 and 2.
-- Assumes nothing.
use Rattle.sheet_standings.specs.Layout.{wide}
use Rattle.sheet_ring.proofs.left_of.Goals as goal

pub whole-requires : goal.whole-requires
whole-requires c = let small = c.requires in (small 1, small 2)

pub returns : goal.returns
unfolding wide
returns c = c.whole.ensures

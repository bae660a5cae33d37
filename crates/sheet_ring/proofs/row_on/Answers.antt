-- `sheet_ring::row_on` meets its contract: from an empty row nothing is read.
-- Assumes nothing.
use Prim.Native.Nat.{◌*◌, ◌%◌, ◌^◌}
use mathlib.Core.Path.{ap}
use Rattle.sheet_standings.specs.RingCells.{raised}
use Rattle.sheet_ring.proofs.Rows.{row_none}
use Rattle.sheet_ring.proofs.row_on.Goals as goal

pub returns-then-s-eq0 : goal.returns-then-s-eq0
returns-then-s-eq0 c = let a = c.args in row_none a.right.now _ a.a a.r c.if-s-eq0.true

pub returns : goal.returns
unfolding raised
returns c = ap (λ w. w % 2 ^ 31 * 2) c.step_set.ensures

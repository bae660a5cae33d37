-- `sheet_ring::put_head` meets its contract: three cells are stored.
-- Assumes nothing.
use native.Mathlib.Omega.{arith}
use mathlib.Core.Path.{refl}
use lib.ListN.{length-set}
use Rattle.sheet_standings.specs.RingCells.{head_cell}
use Rattle.sheet_ring.specs.inner.Head.{headed}
use Rattle.sheet_ring.proofs.put_head.Goals as goal

pub bounds-to-1 : goal.bounds-to-1
bounds-to-1 c = simp length-set (omega arith)

pub bounds-to-2 : goal.bounds-to-2
bounds-to-2 c = simp length-set (omega arith)

pub returns : goal.returns
unfolding headed head_cell
returns c = refl

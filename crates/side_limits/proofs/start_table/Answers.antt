-- `side_limits::start_table` meets its contract. The invariant: the relations below place i count 1, and all else nothing. The measure is how
-- many are left.
-- Assumes nothing.
use native.Mathlib.Omega.{arith}
use mathlib.Core.Path.{refl, ◌∙◌}
use lib.ListN.{length-set}
use Rattle.side_limits.proofs.Tables.{ones_start, ones_more, ones_done}
use Rattle.side_limits.proofs.start_table.Goals as goal

pub loop-i-init : goal.loop-i-init
loop-i-init c = (omega arith, omega arith, refl, ones_start _ c.requires)

pub loop-i-preserved : goal.loop-i-preserved
loop-i-preserved c =
    let at = c.loop-i in (
      omega arith,
      omega arith,
      rw c.store.ensures (length-set at.table at.i 1 ∙ at.invariant.2),
      rw c.store.ensures (ones_more at.i at.table at.invariant.3 at.invariant.0 (omega arith)),
    )

pub shape_of-table : goal.shape_of-table
shape_of-table c = rw c.store-2.ensures (length-set c.loop-i.table 6 c.args.test ∙ c.loop-i.invariant.2)

pub returns : goal.returns
returns c =
    let at = c.loop-i in
    rw c.store-2.ensures (ones_done at.i at.table at.invariant.3 c.args.test (omega arith))

-- `side_tables::range_set` meets its contract.
-- Assumes nothing.
use Rattle.side_tables.specs.InPlace.{range_set}
use Rattle.side_atoms.specs.Atoms.{all_atoms}
use Rattle.bits.proofs.Rows.{all_below_lem}
use lib.Bits.{bit_and}
use Prim.Native.Nat.{◌-◌}
use native.Mathlib.Omega.{arith}
use mathlib.Core.Path.{ap₂}
use Rattle.side_tables.proofs.range_set.Goals as goal

pub overflow_sub-result : goal.overflow_sub-result
overflow_sub-result c = omega (arith, c.below-2.ensures, all_below_lem 64 c.args.lo)

pub returns : goal.returns
unfolding range_set
returns c = ap₂ (λ x y. bit_and x (all_atoms - y)) c.below.ensures c.below-2.ensures

-- `sheet_path::some_refutes` meets its contract. The invariant: some atom of those left passes exactly where some atom of the set does. The
-- measure is the count of ones of the set left.
-- Assumes nothing.
use Prim.Native.Nat.{◌^◌, ◌<◌}
use native.Mathlib.Omega.{arith}
use mathlib.Core.Path.{◌≡◌, refl, sym, ◌∙◌}
use lib.Count.{ones, trailing_le}
use Rattle.kat.specs.Lists.{some}
use Rattle.bits.specs.Sets.{members}
use Rattle.bits.proofs.Lowest.{Lowest, lowest}
use Rattle.bits.proofs.Walk.{some_end, some_hit, some_miss}
use Rattle.sheet_path.proofs.Finals.{refuting}
use borrow.Author.Rules.{rules}
use Rattle.sheet_path.proofs.some_refutes.Given as goal

abbrev pub invariant-loop-rest : goal.invariant-loop-rest
invariant-loop-rest l =
    (l.rest < 2 ^ 64) × (some (refuting l.left l.right l.p l.s) (members l.rest) ≡ some (refuting l.left l.right l.p l.s) (members l.atoms))

abbrev pub decreases-loop-rest : goal.decreases-loop-rest
decreases-loop-rest l = ones l.rest

-- `sheet_alike::lowest` meets its contract. The invariant: none of the atoms left is alike exactly where none of all is. The measure is
-- the count of ones of the set left.
-- Assumes nothing.
use Prim.Native.Nat.{◌^◌, ◌<◌}
use mathlib.Core.Path.{◌≡◌}
use mathlib.Core.Bool.{not}
use lib.Count.{ones}
use Rattle.kat.specs.Lists.{some}
use Rattle.bits.specs.Sets.{members}
use Rattle.sheet_alike.specs.Masks.{alike_words, lowest_words}
use Rattle.sheet_alike.proofs.lowest.Given as goal

abbrev pub invariant-loop-rest : goal.invariant-loop-rest
invariant-loop-rest l =
    (l.rest < 2 ^ 64) × (not (some (alike_words l.f l.left l.right l.r l.a) (members l.rest)) ≡ lowest_words l.f l.left l.right l.r l.a)

abbrev pub decreases-loop-rest : goal.decreases-loop-rest
decreases-loop-rest l = ones l.rest

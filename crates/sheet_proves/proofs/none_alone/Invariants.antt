-- `sheet_proves::none_alone` meets its contract. The invariant: none of the atoms left refutes exactly where none of all does. The measure is
-- the count of ones of the set left.
-- Assumes nothing.
use Prim.Native.Nat.{◌^◌, ◌<◌}
use mathlib.Core.Path.{◌≡◌}
use mathlib.Core.Bool.{not}
use lib.Count.{ones}
use Rattle.kat.specs.Lists.{some, is_empty}
use Rattle.bits.specs.Sets.{members}
use Rattle.standings.specs.Steps.{alone_words}
use Rattle.sheet_proves.proofs.Ways.{alone_refutes}
use Rattle.sheet_proves.proofs.none_alone.Given as goal

abbrev pub invariant-loop-rest : goal.invariant-loop-rest
invariant-loop-rest l =
    (l.rest < 2 ^ 64) × (not (some (alone_refutes l.left l.right) (members l.rest)) ≡ is_empty (alone_words l.left l.right l.live))

abbrev pub decreases-loop-rest : goal.decreases-loop-rest
decreases-loop-rest l = ones l.rest

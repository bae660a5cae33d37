-- `side_tables::put_into` meets its contract. The invariant: the members left, put into the table as it is, are all of them put into the table
-- at the start. The measure is the count of ones of the set left.
-- Assumes nothing.
use Rattle.side_tables.specs.InPlace.{put_into}
use Rattle.memory.specs.Memory.{for_each}
use Rattle.bits.specs.Sets.{members}
use lib.ListN.{length}
use lib.Count.{ones}
use mathlib.Core.Path.{◌≡◌}
use Prim.Native.Nat.{◌^◌, ◌<◌}
use Rattle.side_tables.proofs.put_into.Given as goal

abbrev pub invariant-loop-left : goal.invariant-loop-left
invariant-loop-left l = (l.left < 2 ^ 64) × (length l.table ≡ length l.initial.table) × (for_each (put_into l.base l.f) (members l.left) l.table ≡ for_each (put_into l.base l.f) (members l.s) l.initial.table)

abbrev pub decreases-loop-left : goal.decreases-loop-left
decreases-loop-left l = ones l.left

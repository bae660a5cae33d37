-- `search_ring::push` meets its contract. The invariant: w joined into the columns of the members left, on the memory as it is, is w joined
-- into those of all members on the memory at the start. The measure is the count of ones of the set left.
-- Assumes nothing.
use Prim.Native.Nat.{◌^◌, ◌<◌}
use mathlib.Core.Path.{◌≡◌}
use lib.Count.{ones}
use lib.ListN.{length}
use Rattle.search_ring.specs.inner.Columns.{pushed}
use Rattle.search_ring.proofs.push.Given as goal

abbrev pub invariant-loop-left : goal.invariant-loop-left
invariant-loop-left l = (length l.to ≡ 40) × (l.left < 2 ^ 64) × (pushed l.to l.left l.w ≡ pushed l.initial.to l.s l.w)

abbrev pub decreases-loop-left : goal.decreases-loop-left
decreases-loop-left l = ones l.left

-- `sheet_pairs::push` meets its contract. The invariant: w joined into the rows of the members left, on the memory as it is, is w joined
-- into those of all members on the memory at the start. The measure is the count of ones of the set left.
-- Assumes nothing.
use Prim.Native.Nat.{◌^◌, ◌<◌}
use mathlib.Core.Path.{◌≡◌}
use lib.Count.{ones}
use lib.ListN.{length}
use Rattle.sheet_pairs.specs.inner.Rows.{pushed}
use Rattle.sheet_pairs.proofs.push.Given as goal

abbrev pub invariant-loop-rest : goal.invariant-loop-rest
invariant-loop-rest l = (length l.to ≡ 32) × (l.rest < 2 ^ 64) × (pushed l.to l.rest l.w ≡ pushed l.initial.to l.s l.w)

abbrev pub decreases-loop-rest : goal.decreases-loop-rest
decreases-loop-rest l = ones l.rest

-- `side_runs::skip_operators` meets its contract. The invariant: only codes of a T were passed, and the place is no further than the end.
-- Assumes nothing.
use Prim.Native.Nat.{◌≤◌, max}
use lib.ListN.{length}
use Rattle.side_runs.specs.inner.Running.{Skipped}
use Rattle.side_runs.proofs.skip_operators.Given as goal

abbrev pub invariant-loop-i : goal.invariant-loop-i
invariant-loop-i l = (l.i ≤ max l.pc (length l.codes)) × Skipped l.codes l.pc l.i

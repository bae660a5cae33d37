-- `side_runs::skip_tests` meets its contract. The invariant: only codes of a T were passed. The measure is what is left of the codes.
-- Assumes nothing.
use Rattle.side_runs.proofs.RunningAll.{skip_more, skip_on}
use Rattle.side_runs.specs.inner.Running.{Skipped}
use lib.ListN.{length}
use native.Mathlib.Omega.{arith}
use Prim.Native.Nat.{◌-◌, ◌+◌}
use borrow.Author.Rules.{rules}
use mathlib.Core.Bool.{not}
use mathlib.Core.Path.{ap}
use Rattle.side_runs.proofs.skip_tests.Given as goal

abbrev pub invariant-loop-i : goal.invariant-loop-i
invariant-loop-i l = Skipped l.codes l.pc l.i

abbrev pub decreases-loop-i : goal.decreases-loop-i
decreases-loop-i l = length l.codes - l.i

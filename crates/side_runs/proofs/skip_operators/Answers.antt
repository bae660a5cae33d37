-- `side_runs::skip_operators` meets its contract. The invariant: only codes of a T were passed, and the place is no further than the end.
-- Assumes nothing.
use native.Mathlib.Omega.{arith}
use mathlib.Core.Path.{◌≡◌, subst}
use Rattle.std.proofs.Common.{rules}
use Rattle.side_runs.proofs.RunningAll.{skip_operator}
use Rattle.side_runs.specs.inner.Running.{Skipped}
use Rattle.side_runs.proofs.skip_operators.Goals as goal

pub loop-i-init : goal.loop-i-init
loop-i-init c = (omega arith, (omega arith, λ j a b. absurd (omega arith)))

pub returns-then-codes-i-ge-TESTED : goal.returns-then-codes-i-ge-TESTED
returns-then-codes-i-ge-TESTED c = c.loop-i.invariant.1

pub loop-i-preserved : goal.loop-i-preserved
loop-i-preserved c = (omega arith, skip_operator c.args.codes.now c.args.pc c.loop-i.i c.loop-i.invariant.1 c.if-codes-i-ge-TESTED.false)

pub returns : goal.returns
returns c = let e : c.loop-i.i ≡ c.max.result = search rules in subst (Skipped c.args.codes.now c.args.pc) e c.loop-i.invariant.1

-- `side_runs::skip_tests` meets its contract. The invariant: only codes of a T were passed. The measure is what is left of the codes.
-- Assumes nothing.
use Rattle.side_runs.proofs.RunningAll.{skip_more, skip_on}
use Rattle.side_runs.specs.inner.Running.{Skipped}
use lib.ListN.{length}
use native.Mathlib.Omega.{arith}
use Prim.Native.Nat.{◌-◌, ◌+◌}
use borrow.Author.Rules.{rules}
use mathlib.Core.Bool.{not}
use mathlib.Core.Path.{ap}
use Rattle.side_runs.proofs.skip_tests.Goals as goal

pub loop-i-init : goal.loop-i-init
loop-i-init c = c.skip_operators-i.ensures

pub bounds-codes-i : goal.bounds-codes-i
bounds-codes-i c = c.loop-i-test.true

pub returns-then-not-of_test : goal.returns-then-not-of_test
returns-then-not-of_test c = c.loop-i.invariant

pub loop-i-smaller : goal.loop-i-smaller
loop-i-smaller c = omega (arith, c.loop-i-test.true, c.skip_operators-i-in-loop-i.ensures.0)

pub loop-i-preserved : goal.loop-i-preserved
loop-i-preserved c = skip_on c.args.codes.now c.args.pc (c.loop-i.i + 1) _ (skip_more c.args.codes.now c.args.pc c.loop-i.i c.loop-i.invariant _ c.of_test.ensures (ap not c.if-not-of_test.false)) c.skip_operators-i-in-loop-i.ensures

pub returns : goal.returns
returns c = c.loop-i.invariant

-- `side_runs::unite_times` meets its contract. The invariant: uniting as often as is left makes of the machine now what uniting n times makes of
-- the machine at the start.
-- Assumes nothing.
use Prim.Native.Nat.{◌+◌, ◌-◌}
use native.Mathlib.Omega.{arith}
use mathlib.Core.Path.{◌≡◌, sym, ◌∙◌, ap}
use Rattle.side_parts.specs.Machine.{machine_in}
use Rattle.side_runs.specs.Execution.{united_times}
use Rattle.side_runs.proofs.RunningAll.{united_more, united_none}
use Rattle.side_runs.proofs.unite_times.Goals as goal

pub loop-init : goal.loop-init
loop-init c = λ t. let e : c.args.n - 0 ≡ c.args.n = omega arith in ap (λ k. united_times k (machine_in t c.args.parts.now)) e

pub loop-preserved : goal.loop-preserved
loop-preserved c = λ t.
    let left = c.args.n - c.loop.counter in
    let e : c.args.n - (c.loop.counter + 1) ≡ left - 1 = omega arith in
    ap (λ k. united_times k (machine_in t c.unite.new.parts)) e ∙ united_more left _ _ (omega arith) (c.unite.ensures t) ∙ c.loop.invariant t

pub returns : goal.returns
returns c = λ t. sym (united_none (c.args.n - c.loop.counter) (machine_in t c.loop.parts) (omega arith)) ∙ c.loop.invariant t

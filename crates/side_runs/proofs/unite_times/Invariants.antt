-- `side_runs::unite_times` meets its contract. The invariant: uniting as often as is left makes of the machine now what uniting n times makes of
-- the machine at the start.
-- Assumes nothing.
use Prim.Native.Nat.{ℕ, ◌-◌}
use mathlib.Core.Path.{◌≡◌}
use mathlib.Core.List.{List}
use Rattle.side_parts.specs.Machine.{machine_in}
use Rattle.side_runs.specs.Execution.{united_times}
use Rattle.side_runs.proofs.unite_times.Given as goal

abbrev pub invariant-loop : goal.invariant-loop
invariant-loop l = (t : List ℕ) → united_times (l.n - l.counter) (machine_in t l.parts) ≡ united_times l.n (machine_in t l.initial.parts)

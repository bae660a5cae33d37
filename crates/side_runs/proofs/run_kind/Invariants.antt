-- `side_runs::run_kind` meets its contract. The invariant: what is left of the expressions, run on the machine now, is all of them run on the
-- machine at the start.
-- Assumes nothing.
use Rattle.side_runs.proofs.RunningAll.{Rest}
use Rattle.side_parts.specs.Machine.{machine_in}
use lib.ListN.{length}
use Prim.Native.Nat.{◌≤◌}
use Rattle.side_runs.proofs.run_kind.Given as goal

abbrev pub invariant-loop-i : goal.invariant-loop-i
invariant-loop-i l = (l.i ≤ length l.codes) × (l.line ≤ l.i) × (l.count ≤ l.i) × Rest l.kind l.codes l.needs (machine_in l.initial.table l.initial.parts) l.i l.start l.line l.count (machine_in l.table l.parts)

-- The proof of running a line of items and of one item, which call each other for a let. The measure is the place where the line starts,
-- and then which of the two it is: a let is entered only at a place before. The laws are those of `Running`; here they are cited.
-- Assumes nothing.
use Rattle.side_runs.proofs.Running.{Left}
use Rattle.side_parts.specs.Machine.{machine_in}
use lib.ListN.{length}
use Prim.Native.Nat.{◌+◌, ◌-◌, ◌*◌}
use Rattle.side_runs.proofs.+run_from_run_item.Given as goal

abbrev pub decreases-run_item : goal.decreases-run_item
decreases-run_item l = l.from * 2

abbrev pub decreases-run_from : goal.decreases-run_from
decreases-run_from l = l.from * 2 + 1

abbrev pub invariant-run_from-loop-pc : goal.invariant-run_from-loop-pc
invariant-run_from-loop-pc l = Left l.codes l.needs l.from (machine_in l.initial.table l.initial.parts) l.pc (machine_in l.table l.parts)

abbrev pub decreases-run_from-loop-pc : goal.decreases-run_from-loop-pc
decreases-run_from-loop-pc l = length l.codes - l.pc

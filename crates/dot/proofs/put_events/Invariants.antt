-- `dot::put_events` meets its contract. The invariant: the events that are left, put into the memory as it is, are all of them put into the memory at
-- the start.
-- Assumes nothing.
use Prim.Native.Nat.{◌-◌, ◌≤◌}
use lib.ListN.{length, drop}
use Rattle.print_line.proofs.Pieces.{Left}
use Rattle.dot.specs.DotText.{event_lines, atoms_in}
use Rattle.dot.proofs.put_events.Given as goal

abbrev pub invariant-loop-out : goal.invariant-loop-out
invariant-loop-out l = (l.field ≤ length l.graph) × (l.event ≤ l.field) × Left l.initial.out l.at (event_lines l.text 0 (atoms_in l.graph)) l.out l.to (event_lines l.text l.event (atoms_in (drop l.field l.graph)))

abbrev pub decreases-loop-out : goal.decreases-loop-out
decreases-loop-out l = length l.graph - l.field

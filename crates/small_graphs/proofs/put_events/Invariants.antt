use Prim.Native.Nat.{◌≤◌}
use mathlib.Core.Path.{◌≡◌}
use lib.ListN.{length, take, drop}
use Rattle.small_graphs.specs.Graphs.{event_fields}
use Rattle.case_lines.proofs.Putting.{Left}
use Rattle.small_graphs.proofs.put_events.Given as goal

abbrev pub invariant-loop-i : goal.invariant-loop-i
invariant-loop-i l =
    (l.i ≤ l.count) × (length l.to ≡ length l.initial.to) × Left l.initial.to 0 (event_fields (take l.count l.atoms)) l.to l.at (event_fields (drop l.i (take l.count l.atoms)))

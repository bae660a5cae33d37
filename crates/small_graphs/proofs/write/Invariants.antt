use Prim.Native.Nat.{◌≤◌}
use mathlib.Core.Path.{◌≡◌}
use lib.ListN.{length, take, drop}
use Rattle.small_graphs.specs.Graphs.{relation_fields}
use Rattle.case_lines.proofs.Putting.{Left}
use Rattle.small_graphs.proofs.write.Given as goal

abbrev pub invariant-loop-i : goal.invariant-loop-i
invariant-loop-i l =
    (l.i ≤ l.relations) × (length l.to ≡ length l.initial.to)
    × Left l.initial.to l.initial.at (relation_fields 0 (take l.relations l.edges)) l.to l.at (relation_fields l.i (drop l.i (take l.relations l.edges)))

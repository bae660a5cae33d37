-- `small_graphs::put_relation` meets its contract. It goes once over the bits, and what is left to put is the whole.
-- Assumes nothing.
use Prim.Native.Nat.{◌-◌, ◌≤◌}
use mathlib.Core.Path.{◌≡◌}
use lib.ListN.{length}
use Rattle.small_graphs.specs.Graphs.{counted, edges_among, edge_fields}
use Rattle.case_lines.proofs.Putting.{Left}
use Rattle.small_graphs.proofs.put_relation.Given as goal

abbrev pub invariant-loop-place : goal.invariant-loop-place
invariant-loop-place l =
    (l.place ≤ 64) × (length l.to ≡ length l.initial.to) × Left l.initial.to l.from (edge_fields l.relation l.r) l.to l.at (edges_among l.relation l.r (counted l.place (64 - l.place)))

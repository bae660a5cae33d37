-- `dot::put_edges` meets its contract. The invariant: the edges that are left, put into the memory as it is, are all of them put into the memory at
-- the start.
-- Assumes nothing.
use Prim.Native.Nat.{◌-◌, ◌≤◌}
use lib.ListN.{length, drop}
use Rattle.print_line.proofs.Pieces.{Left}
use Rattle.dot.specs.DotText.{edge_lines, edges_in}
use Rattle.dot.proofs.put_edges.Given as goal

abbrev pub invariant-loop-field : goal.invariant-loop-field
invariant-loop-field l = (l.field ≤ length l.edges) × Left l.initial.out l.at (edge_lines l.text l.word l.n (edges_in l.edges)) l.out l.to (edge_lines l.text l.word l.n (edges_in (drop l.field l.edges)))

abbrev pub decreases-loop-field : goal.decreases-loop-field
decreases-loop-field l = length l.edges - l.field

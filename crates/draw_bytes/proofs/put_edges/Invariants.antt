-- `draw_bytes::put_edges` meets its contract. The invariant: the relations that are left, put into the memory as it is, are all of them put into
-- the memory at the start.
-- Assumes nothing.
use Prim.Native.Nat.{◌≤◌}
use Rattle.kat.specs.Lists.{upto}
use Rattle.claims.specs.GraphWriting.{joined}
use Rattle.draw_rows.specs.Rows.{table_at}
use Rattle.draw_bytes.specs.Bytes.{relation_bytes, edges_bytes}
use Rattle.print_line.proofs.Pieces.{Left}
use Rattle.draw_bytes.proofs.put_edges.Given as goal

abbrev pub invariant-loop-r : goal.invariant-loop-r
invariant-loop-r l =
    (l.r ≤ l.relations)
    × Left l.initial.out l.at (edges_bytes l.n (table_at l.tables) l.relations) l.out l.to (joined (relation_bytes l.n (table_at l.tables)) (upto l.r l.relations))

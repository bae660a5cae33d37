-- `draw_bytes::put_rows` meets its contract. The invariant: the rows that are left, put into the memory as it is, are all of them put into the
-- memory at the start.
-- Assumes nothing.
use Prim.Native.Nat.{◌≤◌}
use Rattle.kat.specs.Lists.{upto}
use Rattle.claims.specs.GraphWriting.{joined}
use Rattle.draw_bytes.specs.Fields.{rows_bytes}
use Rattle.print_line.proofs.Pieces.{Left}
use Rattle.draw_bytes.proofs.Pieces.{a_row}
use Rattle.draw_bytes.proofs.put_rows.Given as goal

abbrev pub invariant-loop-x : goal.invariant-loop-x
invariant-loop-x l = (l.x ≤ l.n) × Left l.initial.out l.at (rows_bytes l.r l.n l.rows) l.out l.to (joined (a_row l.r l.rows) (upto l.x l.n))

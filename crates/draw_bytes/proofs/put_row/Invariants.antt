-- `draw_bytes::put_row` meets its contract. The invariant: the edges to the members that are left, put into the memory as it is, are all of them
-- put into the memory at the start. The measure is the count of ones of the set left.
-- Assumes nothing.
use Prim.Native.Nat.{◌^◌, ◌<◌}
use lib.Count.{ones}
use Rattle.claims.specs.GraphWriting.{joined}
use Rattle.bits.specs.Sets.{members}
use Rattle.draw_bytes.specs.Fields.{row_bytes}
use Rattle.print_line.proofs.Pieces.{Left}
use Rattle.draw_bytes.proofs.Pieces.{an_edge}
use Rattle.draw_bytes.proofs.put_row.Given as goal

abbrev pub invariant-loop-left : goal.invariant-loop-left
invariant-loop-left l = (l.left < 2 ^ 64) × Left l.initial.out l.at (row_bytes l.r l.x l.s) l.out l.to (joined (an_edge l.r l.x) (members l.left))

abbrev pub decreases-loop-left : goal.decreases-loop-left
decreases-loop-left l = ones l.left

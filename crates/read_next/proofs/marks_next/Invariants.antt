-- `read_next::marks_next` meets its contract. The invariant: as many marks as were counted stand between the start and i. The measure is
-- what is left of the line.
-- Assumes nothing.
use Rattle.read_next.proofs.Next.{Passed}
use Prim.Native.Nat.{◌-◌}
use lib.ListN.{length}
use Rattle.read_next.proofs.marks_next.Given as goal

abbrev pub invariant-loop-next : goal.invariant-loop-next
invariant-loop-next l = Passed l.s l.at l.b l.i l.count

abbrev pub decreases-loop-next : goal.decreases-loop-next
decreases-loop-next l = length l.s - l.i

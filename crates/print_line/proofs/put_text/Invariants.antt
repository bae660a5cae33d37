-- `print_line::put_text` meets its contract. The bytes so far are put; the rest follows one by one.
-- Assumes nothing.
use Prim.Native.Nat.{◌≤◌}
use lib.ListN.{length, take}
use Rattle.print_line.specs.Puts.{Puts}
use Rattle.print_line.proofs.put_text.Given as goal

abbrev pub invariant-loop-b : goal.invariant-loop-b
invariant-loop-b l = (l.b-index ≤ length l.bytes) × Puts l.initial.out l.at (take l.b-index l.bytes) l.to l.out

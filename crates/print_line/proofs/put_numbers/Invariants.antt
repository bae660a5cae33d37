-- `print_line::put_numbers` meets its contract. The numbers so far are put.
-- Assumes nothing.
use Prim.Native.Nat.{◌≤◌}
use lib.ListN.{length, take}
use Rattle.claims.specs.Printed.{spaced}
use Rattle.print_line.specs.Puts.{Puts}
use Rattle.print_line.proofs.put_numbers.Given as goal

abbrev pub invariant-loop-n : goal.invariant-loop-n
invariant-loop-n l = (l.n-index ≤ length l.ns) × Puts l.initial.out l.at (spaced (take l.n-index l.ns)) l.to l.out

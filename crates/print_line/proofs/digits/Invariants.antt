-- `print_line::digits` meets its contract. The digits that stand and those still to come are the whole number's; the number left falls.
-- Assumes nothing.
use Prim.Native.Nat.{ℕ, ◌^◌, ◌<◌, ◌≤◌}
use mathlib.Core.Path.{◌≡◌}
use lib.ListN.{length, drop}
use Rattle.claims.specs.Printed.{digits_before, decimal}
use Rattle.print_line.proofs.digits.Given as goal

abbrev pub invariant-loop-left : goal.invariant-loop-left
invariant-loop-left l =
    ((f : ℕ) × (l.left < f) × (digits_before f l.left (drop l.i l.to) ≡ decimal l.n)) × (1 ≤ l.i) × (l.i ≤ 20) × (l.left < 10 ^ l.i) × (length l.to ≡ 20)

abbrev pub decreases-loop-left : goal.decreases-loop-left
decreases-loop-left l = l.left

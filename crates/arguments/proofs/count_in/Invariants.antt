-- `arguments::count_in` meets its contract. What is left of the digits, behind the number so far, gives the allowance.
-- Assumes nothing.
use Prim.Native.Nat.{◌≤◌}
use mathlib.Core.Path.{◌≡◌}
use lib.ListN.{length, drop}
use Rattle.arguments.specs.ArgumentWords.{count_from, allowance_in}
use Rattle.arguments.proofs.count_in.Given as goal

abbrev pub invariant-loop-b : goal.invariant-loop-b
invariant-loop-b l = (l.b-index ≤ length l.word) × (count_from l.value (drop l.b-index l.word) ≡ allowance_in l.word)

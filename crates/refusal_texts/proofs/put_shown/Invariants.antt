-- `refusal_texts::put_shown` meets its contract. The bytes so far are put; the rest follows one by one.
-- Assumes nothing.
use Prim.Native.Nat.{◌≤◌}
use mathlib.Core.List.{map}
use lib.ListN.{length, take}
use Rattle.print_line.specs.Puts.{Puts}
use Rattle.refusal_texts.specs.Sentences.{visible}
use Rattle.refusal_texts.proofs.put_shown.Given as goal

abbrev pub invariant-loop-b : goal.invariant-loop-b
invariant-loop-b l = (l.b-index ≤ length l.line) × Puts l.initial.out l.at (map visible (take l.b-index l.line)) l.to l.out

-- `texts::part_end` meets its contract. The place and what is left of the part give its end.
-- Assumes nothing.
use Prim.Native.Nat.{◌+◌, ◌≤◌}
use mathlib.Core.Path.{◌≡◌}
use lib.ListN.{length, drop}
use Rattle.texts.specs.Lines.{front}
use Rattle.texts.specs.inner.Parts.{of_part}
use Rattle.texts.proofs.part_end.Given as goal

abbrev pub invariant-loop-i : goal.invariant-loop-i
invariant-loop-i l =
    (l.at ≤ l.i) × (l.i ≤ length l.text) × (l.i + length (front (of_part l.kind) (drop l.i l.text)) ≡ l.at + length (front (of_part l.kind) (drop l.at l.text)))

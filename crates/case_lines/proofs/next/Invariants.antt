use mathlib.Core.Path.{◌≡◌}
use mathlib.Core.List.{List, ◌++◌}
use Prim.Native.Nat.{ℕ}
use lib.ListN.{length}
use Rattle.case_lines.specs.Lines.{left, Begun, line_start}
use Rattle.case_lines.proofs.next.Given as goal

abbrev pub invariant-loop : goal.invariant-loop
invariant-loop l =
    (length l.part ≡ length l.initial.part) × (length l.text ≡ length l.initial.text)
    × ((read : List ℕ) × Begun l.initial.text line_start (left l.initial.part l.initial.at l.initial.filled ++ read) (left l.part l.at l.filled) l.place l.text)

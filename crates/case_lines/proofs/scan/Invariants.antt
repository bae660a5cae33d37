use mathlib.Core.Path.{◌≡◌}
use lib.ListN.{length}
use Rattle.case_lines.specs.Lines.{left, Begun}
use Rattle.case_lines.proofs.scan.Given as goal

abbrev pub invariant-loop-at : goal.invariant-loop-at
invariant-loop-at l = (length l.text ≡ length l.initial.text) × Begun l.initial.text l.initial.place (left l.part l.from l.filled) (left l.part l.at l.filled) l.place l.text

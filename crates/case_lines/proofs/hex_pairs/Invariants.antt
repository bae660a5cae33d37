use Prim.Native.Nat.{◌*◌, ◌≤◌}
use mathlib.Core.Path.{◌≡◌}
use lib.ListN.{length, drop}
use Rattle.case_lines.specs.Fields.{hex_pairs}
use Rattle.case_lines.proofs.Putting.{Left}
use Rattle.case_lines.proofs.hex_pairs.Given as goal

abbrev pub invariant-loop-used : goal.invariant-loop-used
invariant-loop-used l =
    (2 * l.used ≤ length l.text) × (length l.to ≡ length l.initial.to) × Left l.initial.to 0 (hex_pairs l.text) l.to l.used (hex_pairs (drop (2 * l.used) l.text))

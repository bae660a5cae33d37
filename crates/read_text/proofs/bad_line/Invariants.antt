-- `read_text::bad_line` meets its contract. The invariant: what is found in the bytes left, from the line reached, is what is found in all.
-- Assumes nothing.
use Prim.Native.Nat.{◌+◌, ◌≤◌}
use mathlib.Core.Path.{◌≡◌}
use lib.ListN.{length, drop}
use Rattle.claims.specs.Reading.{bad_line}
use Rattle.read_text.proofs.bad_line.Given as goal

abbrev pub invariant-loop-x : goal.invariant-loop-x
invariant-loop-x l = (l.x-index ≤ length l.text) × (l.line ≤ l.x-index + 1) × (bad_line l.line (drop l.x-index l.text) ≡ bad_line 1 l.text)

-- `texts::line` meets its contract. As many lines are passed as are counted down.
-- Assumes nothing.
use Prim.Native.Nat.{◌+◌, ◌≤◌}
use mathlib.Core.Path.{◌≡◌}
use Prim.Native.Nat.{◌-◌}
use lib.ListN.{length, drop}
use Rattle.texts.specs.Lines.{line_at}
use Rattle.texts.proofs.line.Given as goal

abbrev pub invariant-loop-line : goal.invariant-loop-line
invariant-loop-line l = (l.at ≤ length l.text) × (1 ≤ l.n) × (l.line ≤ l.n) × (line_at (l.n + 1 - l.line) (drop l.at l.text) ≡ line_at l.n l.text)

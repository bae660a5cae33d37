-- `judge_line::line_ends` meets its contract. The ends so far and those behind are all.
-- Assumes nothing.
use Rattle.judge_line.specs.JudgedWords.{line_ends}
use lib.ListN.{length, drop}
use mathlib.Core.Path.{◌≡◌}
use Prim.Native.Nat.{◌+◌, ◌≤◌}
use Rattle.judge_line.proofs.line_ends.Given as goal

abbrev pub invariant-loop-b : goal.invariant-loop-b
invariant-loop-b l = (l.b-index ≤ length l.text) × (l.n ≤ l.b-index) × (l.n + line_ends (drop l.b-index l.text) ≡ line_ends l.text)

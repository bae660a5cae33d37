-- `circle_cases::counts::proved` is safe and ends: it makes 24 graphs, and the lent memory keeps its lengths.
-- Assumes nothing.
use Prim.Native.Nat.{◌-◌, ◌≤◌}
use mathlib.Core.Path.{◌≡◌}
use lib.ListN.{length}
use borrow.Author.Rules.{rules}
use Rattle.circle_cases.proofs.counts.proved.Given as goal

abbrev pub invariant-loop-number : goal.invariant-loop-number
invariant-loop-number l = (length l.graph ≡ length l.initial.graph) × (length l.counts ≡ length l.initial.counts)

-- `circle_cases::graphs::add_steps` is safe and ends: the lent memory keeps its lengths.
-- Assumes nothing.
use Prim.Native.Nat.{◌-◌, ◌≤◌}
use mathlib.Core.Path.{◌≡◌}
use lib.ListN.{length}
use borrow.Author.Rules.{rules}
use Rattle.circle_cases.proofs.graphs.add_steps.Given as goal

abbrev pub invariant-loop : goal.invariant-loop
invariant-loop l = (length l.edges ≡ length l.initial.edges) × (length l.graph ≡ length l.initial.graph)

-- `circle_cases::graphs::add_events` is safe and ends: the lent memory keeps its lengths.
-- Assumes nothing.
use Prim.Native.Nat.{◌-◌, ◌≤◌}
use mathlib.Core.Path.{◌≡◌}
use lib.ListN.{length}
use borrow.Author.Rules.{rules}
use Rattle.circle_cases.proofs.graphs.add_events.Given as goal

abbrev pub invariant-loop : goal.invariant-loop
invariant-loop l = (length l.atoms ≡ length l.initial.atoms) × (length l.graph ≡ length l.initial.graph)

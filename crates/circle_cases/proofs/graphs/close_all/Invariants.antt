-- `circle_cases::graphs::close_all` is safe and ends: it goes once over the relations, whose memory keeps its length.
-- Assumes nothing.
use Prim.Native.Nat.{◌-◌, ◌≤◌}
use mathlib.Core.Path.{◌≡◌}
use lib.ListN.{length}
use borrow.Author.Rules.{rules}
use Rattle.circle_cases.proofs.graphs.close_all.Given as goal

abbrev pub invariant-loop-relation : goal.invariant-loop-relation
invariant-loop-relation l = (length l.edges ≡ length l.initial.edges)

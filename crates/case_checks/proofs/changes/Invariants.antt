-- `case_checks::changes` is safe and ends: it goes once over the bytes; the bytes stay as they were.
-- Assumes nothing.
use Prim.Native.Nat.{◌-◌, ◌≤◌}
use mathlib.Core.Path.{◌≡◌}
use borrow.Author.Rules.{rules}
use Rattle.case_checks.proofs.changes.Given as goal

abbrev pub invariant-loop-b : goal.invariant-loop-b
invariant-loop-b l = (l.buffer ≡ l.initial.buffer)

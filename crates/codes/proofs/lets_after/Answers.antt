-- `codes::lets_after` meets its contract.
-- Assumes nothing.
use native.Mathlib.Nat.{add-zero}
use borrow.Author.Rules.{rules}
use borrow.Author.Tests.{eq-eqb, ne_eqb}
use Rattle.codes.proofs.lets_after.Goals as goal

pub returns-then-k-eq-LET_LINE : goal.returns-then-k-eq-LET_LINE
returns-then-k-eq-LET_LINE c = simp (eq-eqb _ _ c.if-k-eq-LET_LINE.true)

pub returns-else-k-eq-LET_LINE : goal.returns-else-k-eq-LET_LINE
returns-else-k-eq-LET_LINE c = simp (ne_eqb _ _ c.if-k-eq-LET_LINE.false, add-zero)

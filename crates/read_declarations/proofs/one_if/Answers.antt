-- `read_declarations::one_if` meets its contract, by the test of the two numbers.
-- Assumes nothing.
use borrow.Author.Tests.{eq-eqb, ne_eqb}
use native.Mathlib.Omega.{arith}
use Rattle.read_declarations.proofs.one_if.Goals as goal

pub returns-then-a-b : goal.returns-then-a-b
returns-then-a-b c = (rw (eq-eqb _ _ c.if-a-b.true), omega arith)

pub returns : goal.returns
returns c = (rw (ne_eqb _ _ c.if-a-b.false), omega arith)

-- `read_names::relation_number` meets its contract. The definition makes the same two tests, and the codes of relations are 32 numbers.
-- Assumes nothing.
use Rattle.read_names.specs.Slips.{relation_number}
use borrow.Author.Tests.{lt-ltb, le-ltb}
use native.Mathlib.Omega.{arith}
use Rattle.read_names.proofs.relation_number.Goals as goal

pub returns-then-code-lt-A_RELATION : goal.returns-then-code-lt-A_RELATION
unfolding relation_number
returns-then-code-lt-A_RELATION c = (rw (lt-ltb _ _ c.if-code-lt-A_RELATION.true), omega arith)

pub returns-then-code-lt-A_LET : goal.returns-then-code-lt-A_LET
unfolding relation_number
returns-then-code-lt-A_LET c = (rw (le-ltb _ _ c.if-code-lt-A_RELATION.false, lt-ltb _ _ c.if-code-lt-A_LET.true), omega arith)

pub returns : goal.returns
unfolding relation_number
returns c = (rw (le-ltb _ _ c.if-code-lt-A_RELATION.false, le-ltb _ _ c.if-code-lt-A_LET.false), omega arith)

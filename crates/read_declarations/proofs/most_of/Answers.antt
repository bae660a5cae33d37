-- `read_declarations::most_of` meets its contract: each arm gives what the definition's tests give.
-- Assumes nothing.
use Rattle.read_declarations.specs.inner.Declaring.{most_of}
use borrow.Author.Tests.{ne_eqb}
use native.Mathlib.Omega.{arith}
use Rattle.read_declarations.proofs.most_of.Goals as goal

pub returns-in-16 : goal.returns-in-16
unfolding most_of
returns-in-16 c = (rw c.in-16.is, omega arith)

pub returns-in-32 : goal.returns-in-32
unfolding most_of
returns-in-32 c = (rw c.in-32.is, omega arith)

pub returns-in_default : goal.returns-in_default
unfolding most_of
returns-in_default c = (rw (ne_eqb _ _ c.in_default.in_default-own.rest.0.1, ne_eqb _ _ c.in_default.in_default-own.rest.1), omega arith)

-- `read_declarations::count_of` meets its contract: each arm gives what the definition's tests give.
-- Assumes nothing.
use Rattle.read_declarations.specs.inner.Declaring.{count_of}
use borrow.Author.Tests.{ne_eqb}
use Rattle.read_declarations.proofs.count_of.Goals as goal

pub returns-in-16 : goal.returns-in-16
unfolding count_of
returns-in-16 c = rw c.in-16.is

pub returns-in-32 : goal.returns-in-32
unfolding count_of
returns-in-32 c = rw c.in-32.is

pub returns-in_default : goal.returns-in_default
unfolding count_of
returns-in_default c = rw (ne_eqb _ _ c.in_default.in_default-own.rest.0.1, ne_eqb _ _ c.in_default.in_default-own.rest.1)

-- `query::is_ring` meets its contract: it is the definition's own test of the last code.
-- Assumes nothing.
use borrow.Author.Rules.{rules}
use Rattle.query.specs.inner.Counted.{is_ring}
use Rattle.query.proofs.is_ring.Goals as goal

pub returns : goal.returns
unfolding is_ring
returns c = search rules

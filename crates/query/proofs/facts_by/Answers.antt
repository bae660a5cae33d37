-- `query::facts_by` meets its contract.
-- Assumes nothing.
use Rattle.query.specs.inner.Counted.{facts_by}
use mathlib.Core.Path.{refl}
use Rattle.query.proofs.facts_by.Goals as goal

pub returns : goal.returns
unfolding facts_by
returns c = rw (facts_by, c.atom_count.ensures, c.is_ring.ensures) refl

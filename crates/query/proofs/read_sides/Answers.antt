-- `query::read_sides` meets its contract.
-- Assumes nothing.
use Rattle.query.proofs.read_sides.Goals as goal

pub returns : goal.returns
returns c = let r = c.read in (r.ensures.0, r.ensures.2, r.ensures.3)

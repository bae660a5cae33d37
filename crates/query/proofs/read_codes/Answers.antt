-- `query::read_codes` meets its contract.
-- Assumes nothing.
use Rattle.query.proofs.read_codes.Goals as goal

pub returns : goal.returns
returns c = let r = c.read in (r.ensures.0, r.ensures.1)

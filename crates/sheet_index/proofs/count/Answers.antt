-- `sheet_index::count` meets its contract, by the kind of the claim.
-- Assumes nothing.
use Rattle.sheet_index.proofs.Listed.{ring_count, path_count}
use Rattle.sheet_index.proofs.count.Goals as goal

pub returns-then-ring : goal.returns-then-ring
returns-then-ring c = ring_count _ c.if-ring.true

pub returns : goal.returns
returns c = path_count _ c.if-ring.false

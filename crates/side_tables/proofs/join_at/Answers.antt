-- `side_tables::join_at` meets its contract.
-- Assumes nothing.
use Rattle.side_tables.specs.InPlace.{joined_at}
use Rattle.side_tables.proofs.join_at.Goals as goal

pub returns : goal.returns
unfolding joined_at
returns c = c.put_into.ensures

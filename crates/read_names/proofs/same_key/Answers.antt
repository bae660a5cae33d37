-- `read_names::same_key` meets its contract. Both halves are compared.
-- Assumes nothing.
use Rattle.read_names.specs.Keys.{same_key}
use Rattle.read_names.proofs.same_key.Goals as goal

pub returns : goal.returns
unfolding same_key
returns c = c.eq.ensures

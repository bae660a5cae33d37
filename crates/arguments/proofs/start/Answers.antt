-- `arguments::start` meets its contract. By definition.
-- Assumes nothing.
use Rattle.arguments.specs.Arguments.{none_seen}
use Rattle.arguments.proofs.start.Goals as goal

pub returns : goal.returns
unfolding none_seen
returns c = c.nothing_behind.ensures

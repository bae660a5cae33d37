-- `graph_judge::broken_if` meets its contract: the state behind a line.
-- Assumes nothing.
use Rattle.graph_judge.proofs.Ends.{broken_state}
use Rattle.graph_judge.proofs.broken_if.Goals as goal

pub returns : goal.returns
returns c = broken_state c.args.s c.args.b c.first_broken.result c.first_broken.ensures

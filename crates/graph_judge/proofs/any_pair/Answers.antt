-- `graph_judge::any_pair` meets its contract: the table on top against a blank one.
-- Assumes nothing.
use Rattle.graph_judge.proofs.Ends.{pair_read}
use Rattle.graph_judge.proofs.any_pair.Goals as goal

pub returns : goal.returns
returns c = pair_read c.args.mem.now c.args.s _ _ c.load-t.ensures c.lowest_pair.ensures

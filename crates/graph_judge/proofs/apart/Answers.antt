-- `graph_judge::apart` meets its contract: the upper two tables.
-- Assumes nothing.
use Rattle.graph_judge.proofs.Ends.{apart_read}
use Rattle.graph_judge.proofs.apart.Goals as goal

pub returns : goal.returns
returns c = apart_read c.args.mem.now c.args.s _ _ _ c.load-t.ensures c.load-u.ensures c.lowest_pair.ensures

-- `graph_judge::leaves_limits` meets its contract: a relation against what of it goes from T to U.
-- Assumes nothing.
use Rattle.graph_judge.proofs.Ends.{limits_read}
use Rattle.graph_judge.proofs.leaves_limits.Goals as goal

pub returns : goal.returns
returns c =
    let a = c.args in
    limits_read a.listed.now a.mem.now a.s a.r _ _ _ _ _ _ c.load-t.ensures c.load-u.ensures c.relation-edges.ensures
    c.sequence-from.ensures c.sequence-within.ensures c.lowest_pair.ensures

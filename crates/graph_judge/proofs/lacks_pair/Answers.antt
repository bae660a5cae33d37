-- `graph_judge::lacks_pair` meets its contract: two edges in a row against one.
-- Assumes nothing.
use Rattle.graph_judge.proofs.Ends.{closed_read}
use Rattle.graph_judge.proofs.lacks_pair.Goals as goal

pub returns : goal.returns
returns c =
    let a = c.args in
    closed_read a.listed.now a.s a.r _ _ _ c.relation-edges.ensures c.sequence-twice.ensures c.lowest_pair.ensures

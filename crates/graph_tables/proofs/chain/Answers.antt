-- `graph_tables::chain` meets its contract, from what the functions ensure that it calls one after another.
-- Assumes nothing.
use Rattle.rows.specs.Rows.{composed}
use Rattle.graph_tables.proofs.Steps.{merged_with}
use Rattle.graph_tables.proofs.chain.Goals as goal

pub returns : goal.returns
returns c =
    let a = c.args in
    merged_with a.mem.now _ a.s _ composed _ _ _ c.load-t.ensures c.load-u.ensures c.sequence.ensures
    c.put.ensures _ c.less.ensures c.waiting_now.ensures

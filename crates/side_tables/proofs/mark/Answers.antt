-- `side_tables::mark` meets its contract.
-- Assumes nothing.
use Rattle.side_tables.proofs.Walks.{mark_made}
use Rattle.side_tables.proofs.mark.Goals as goal

pub returns : goal.returns
returns c = mark_made c.args.table.now _ c.args.i c.args.k _ _ c.args.on c.word.ensures c.marked-w.ensures c.store.ensures

-- `draw_bytes::put_relation` meets its contract: its rows are put.
-- Assumes nothing.
use Rattle.draw_bytes.proofs.Relations.{puts_relation}
use Rattle.draw_bytes.proofs.put_relation.Goals as goal

pub returns : goal.returns
returns c =
    let k = c in
    puts_relation _ _ _ _ k.table-rows.ensures c.put_rows.ensures

-- `draw_bytes::relation_length` meets its contract: its rows are counted.
-- Assumes nothing.
use Rattle.draw_bytes.proofs.Relations.{relation_length}
use Rattle.draw_bytes.proofs.relation_length.Goals as goal

pub returns : goal.returns
returns c =
    let k = c in
    (c.rows_length.ensures.0, relation_length _ _ _ _ _ k.table-rows.ensures (c.rows_length.ensures.1 _))

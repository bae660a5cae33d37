-- `draw_bytes::put_edge` meets its contract.
-- Assumes nothing.
use Rattle.claims.specs.GraphWriting.{edge_field, edge_of}
use Rattle.draw_bytes.proofs.Pieces.{edge_field_lem, puts_field}
use Rattle.draw_bytes.proofs.put_edge.Goals as goal

pub returns : goal.returns
returns c =
    let a = c.args in
    puts_field (edge_field (edge_of a.r a.x a.y)) (edge_field_lem a.r a.x a.y) c.put_text.ensures

-- `draw_bytes::put_event` meets its contract.
-- Assumes nothing.
use Rattle.claims.specs.GraphWriting.{event_field}
use Rattle.draw_bytes.proofs.Pieces.{event_field_lem, puts_field}
use Rattle.draw_bytes.proofs.put_event.Goals as goal

pub returns : goal.returns
returns c =
    let a = c.args in
    puts_field (event_field a.a) (event_field_lem a.a) c.put_text.ensures

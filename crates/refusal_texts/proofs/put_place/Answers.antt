-- `refusal_texts::put_place` meets its contract. One piece after the other, where there is a place.
-- Assumes nothing.
use Rattle.print_line.proofs.Putting.{puts_append}
use Rattle.refusal_texts.proofs.Pieces.{place_none, place_line, place_field}
use Rattle.refusal_texts.proofs.put_place.Goals as goal

pub returns-then-place-eq0 : goal.returns-then-place-eq0
returns-then-place-eq0 c = place_none _ _ c.if-place-eq0.true c.requires

pub returns-then-line : goal.returns-then-line
returns-then-line c = place_line _ _ c.if-place-eq0.false c.if-line.true (puts_append c.put_text-a.ensures (puts_append c.put_decimal-b.ensures c.put_text.ensures))

pub returns : goal.returns
returns c = place_field _ _ c.if-place-eq0.false c.if-line.false (puts_append c.put_text-a-2.ensures (puts_append c.put_decimal-b-2.ensures c.put_text-2.ensures))

-- `refusal_texts::refusal` meets its contract. The sentence, and the line where there is one.
-- Assumes nothing.
use Rattle.refusal_texts.proofs.Pieces.{words_alone, words_field, words_line, line_shown}
use Rattle.refusal_texts.proofs.refusal.Goals as goal

pub returns-then-place-eq0 : goal.returns-then-place-eq0
returns-then-place-eq0 c = words_alone _ _ _ c.if-place-eq0.true c.put_sentence-a.ensures

pub returns-then-of_query : goal.returns-then-of_query
returns-then-of_query c = words_line _ _ _ _ c.of_query.ensures c.if-place-eq0.false c.if-of_query.true c.put_sentence-a.ensures (line_shown _ _ c.line.ensures c.put_text-b.ensures c.put_shown-c.ensures c.put_byte.ensures)

pub returns : goal.returns
returns c = words_field _ _ _ _ c.of_query.ensures c.if-place-eq0.false c.if-of_query.false c.put_sentence-a.ensures

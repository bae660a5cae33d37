-- `refusal_texts::shown_byte` meets its contract. By the two tests.
-- Assumes nothing.
use Rattle.refusal_texts.proofs.Pieces.{visible_low, visible_high, visible_same}
use Rattle.refusal_texts.proofs.shown_byte.Goals as goal

pub returns-then-b-lt32 : goal.returns-then-b-lt32
returns-then-b-lt32 c = visible_low _ c.if-b-lt32.true

pub returns-then-b-gt126 : goal.returns-then-b-gt126
returns-then-b-gt126 c = visible_high _ c.if-b-lt32.false c.if-b-gt126.true

pub returns : goal.returns
returns c = visible_same _ c.if-b-lt32.false c.if-b-gt126.false

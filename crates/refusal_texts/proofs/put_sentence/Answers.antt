-- `refusal_texts::put_sentence` meets its contract. One piece after the other.
-- Assumes nothing.
use Rattle.print_line.proofs.Putting.{puts_append}
use Rattle.refusal_texts.specs.Sentences.{sentence_of}
use Rattle.refusal_texts.proofs.Pieces.{place_of}
use Rattle.refusal_texts.proofs.put_sentence.Goals as goal

pub returns : goal.returns
unfolding sentence_of
returns c = puts_append c.put_text-a.ensures (puts_append (place_of _ c.of_query.ensures c.put_place-b.ensures) (puts_append c.put_cause-c.ensures c.put_byte.ensures))

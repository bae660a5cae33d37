-- `read_tokens::word` meets its contract. A run that is a name, or none.
-- Assumes nothing.
use borrow.Author.Rules.{rules}
use Rattle.read_tokens.proofs.Found.{found_word, found_no_word}
use Rattle.read_tokens.proofs.word.Goals as goal

pub returns-then-letter-e : goal.returns-then-letter-e
returns-then-letter-e c =
    let a = c.args in
    found_word a.s.now a.i a.b _ _ c.run_end-e.ensures.0 _ c.letter.ensures _ c.key_of.ensures
    c.if-letter-e.true

pub returns : goal.returns
returns c =
    let a = c.args in
    found_no_word a.s.now a.i a.b _ _ c.run_end-e.ensures.0 _ c.letter.ensures c.if-letter-e.false

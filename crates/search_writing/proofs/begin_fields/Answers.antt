-- `search_writing::begin_fields` meets its contract: the length of the sheet is known before it is written.
-- Assumes nothing.
use Rattle.search_writing.proofs.Turns.{fields_short, fields_begun, fields_none}
use borrow.Author.Rules.{rules}
use Rattle.search_writing.proofs.begin_fields.Goals as goal

pub returns-then-buffer-length : goal.returns-then-buffer-length
returns-then-buffer-length c = λ r w room. fields_short _ r w _ _ _ _ c.proved_length-length.ensures c.if-buffer-length.true c.ended.ensures

pub returns-then-n-gt0 : goal.returns-then-n-gt0
returns-then-n-gt0 c =
    let size = c.proved_length-length.ensures in
    let fits = c.if-buffer-length.false in
    let put = c.put_verdict-to.ensures in
    λ r w room. fields_begun _ r w _ _ _ _ size fits _ _ put room c.if-n-gt0.true c.looking.ensures

pub returns : goal.returns
returns c =
    let size = c.proved_length-length.ensures in
    let fits = c.if-buffer-length.false in
    let put = c.put_verdict-to.ensures in
    λ r w room. fields_none _ r w _ _ _ _ size fits _ _ put c.if-n-gt0.false c.ended-2.ensures

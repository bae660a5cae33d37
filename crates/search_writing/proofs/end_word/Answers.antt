-- `search_writing::end_word` meets its contract: the length of the sheet is known before it is written, and the word's field stands behind the
-- verdict's.
-- Assumes nothing.
use native.Mathlib.Omega.{arith}
use mathlib.Core.Path.{refl}
use Rattle.claims.specs.Fields.{field}
use Rattle.search_contents.proofs.Written.{part_written}
use Rattle.search_writing.proofs.Turns.{word_short, word_put}
use borrow.Author.Rules.{rules}
use Rattle.search_writing.proofs.end_word.Goals as goal

pub returns-then-buffer-length : goal.returns-then-buffer-length
returns-then-buffer-length c = word_short _ _ _ c.if-buffer-length.true c.ended.ensures

pub returns : goal.returns
returns c =
    let s = c in
    let a = s.args in
    let v = c.put_verdict-at in
    let w = c.put_word in
    let at = v.result in
    let put = part_written at (field 2 a.contents.now) v.new.out w.new.out (omega (arith, v.ensures.0, v.auto.out)) w.ensures.1 in
    word_put _ _ _ at _ _ _ refl s.if-buffer-length.false v.ensures put c.ended-2.ensures

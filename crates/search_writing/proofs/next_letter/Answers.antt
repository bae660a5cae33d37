-- `search_writing::next_letter` meets its contract: the letter is put before what is gathered, and at the empty prefix the word is whole.
-- Assumes nothing.
use Prim.Native.Nat.{◌-◌}
use native.Mathlib.Omega.{arith}
use mathlib.Core.Path.{refl, ◌∙◌, ap}
use Rattle.search_contents.specs.Written.{over}
use Rattle.search_sheet.specs.SheetWords.{letter_bytes}
use Rattle.search_writing.proofs.Turns.{letters_next, letters_last}
use borrow.Author.Rules.{rules}
use Rattle.search_writing.proofs.next_letter.Goals as goal

pub returns-then-before-eq0 : goal.returns-then-before-eq0
returns-then-before-eq0 c =
    let s = c in
    let a = s.args in
    let l = s.letter.ensures in
    let put = s.put_letter.ensures in
    λ r b₀ place last e h.
    letters_last _ r _ b₀ place last _ _ _ _ _ _ _ h (s.parent-before.ensures r e)
    (put ∙ ap (λ l. over (a.to - 2) (letter_bytes l) a.word.now) (l r e)) _ _ refl s.if-before-eq0.true c.end_word.ensures

pub returns : goal.returns
returns c =
    let a = c.args in
    let l = c.letter.ensures in
    let put = c.put_letter.ensures in
    λ r b₀ place last e h.
    letters_next _ r _ b₀ place last _ _ _ _ _ _ _ h (c.parent-before.ensures r e)
    (put ∙ ap (λ l. over (a.to - 2) (letter_bytes l) a.word.now) (l r e)) (omega arith) c.looking.ensures

-- `read_tokens::token_at` meets its contract. One law for each way out.
-- Assumes nothing.
use native.Mathlib.Omega.{arith}
use mathlib.Core.Path.{sym, ◌∙◌}
use borrow.Author.Rules.{rules}
use Rattle.read_tokens.proofs.Found.{found_past, found_end, found_run, found_mark, found_bad}
use Rattle.read_tokens.proofs.token_at.Goals as goal

pub returns-then-s-at : goal.returns-then-s-at
returns-then-s-at c = found_past _ _ c.if-s-at.true

pub returns-then-s-i : goal.returns-then-s-i
returns-then-s-i c = found_end c.args.s.now _ _ c.skip-i.ensures.0 c.if-s-i.true

pub returns-then-word_byte : goal.returns-then-word_byte
returns-then-word_byte c =
    let b = c in
    found_run b.args.s.now _ _ b.skip-i.ensures.0 _ (omega arith)
    (sym c.word_byte.ensures ∙ c.if-word_byte.true) c.word.ensures

pub returns-then-mark : goal.returns-then-mark
returns-then-mark c =
    let b = c in
    found_mark b.args.s.now _ _ b.skip-i.ensures.0 (omega arith)
    (sym c.word_byte.ensures ∙ c.if-word_byte.false) (sym c.mark.ensures ∙ c.if-mark.true)

pub returns : goal.returns
returns c =
    let b = c in
    found_bad b.args.s.now _ _ b.skip-i.ensures.0 (omega arith)
    (sym c.word_byte.ensures ∙ c.if-word_byte.false) (sym c.mark.ensures ∙ c.if-mark.false)

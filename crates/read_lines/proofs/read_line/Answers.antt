-- `read_lines::read_line` meets its contract: a line behind the claim and one with no word in front are refused, and the first word says the rest.
-- Behind each refusal the codes are cleared.
-- Assumes nothing.
use Rattle.read_lines.proofs.FirstWords.{claimed_before, no_word_first, word_taken, word_refused}
use Rattle.read_bodies.proofs.NextWords.{no_word, token_found}
use native.Mathlib.Omega.{arith}
use borrow.Enum.Refused.{opened as unsealed}
use Rattle.read_lines.proofs.read_line.Goals as goal

pub returns-then-st : goal.returns-then-st
returns-then-st c =
    let w = c.fail.ensures in
    rw w.0 (claimed_before _ _ _ _ _ c.if-st.true _ w.1)

pub returns-in_default : goal.returns-in_default
returns-in_default c =
    let w = c.fail-in_default.ensures in
    let t = c.token_at-t in
    rw w.0 (no_word_first _ _ _ _ _ c.if-st.false t.result t.ensures (no_word t.result (unsealed c.in_default.in_default-own.keys2)) _ w.1)

pub kind_line-requires : goal.kind_line-requires
kind_line-requires c =
    let f = token_found _ _ _ _ c.token_at-t.ensures c.in-Word.is in
    let p = c.requires in
    (p.0, omega (arith, f.after, f.within, p.1))

pub returns-in-Ok : goal.returns-in-Ok
returns-in-Ok c =
    let f = token_found _ _ _ _ c.token_at-t.ensures c.in-Word.is in
    let l = c.kind_line in
    word_taken _ _ _ _ _ c.if-st.false _ _ f l.result _ _ (l.ensures.1 f.spelling f.spelled f.key) _
    c.in-Ok.is

pub returns-in-Err : goal.returns-in-Err
returns-in-Err c =
    let w = c.fail-in-Err.ensures in
    let f = token_found _ _ _ _ c.token_at-t.ensures c.in-Word.is in
    let l = c.kind_line in
    rw w.0
    (word_refused _ _ _ _ _ c.if-st.false _ _ f l.result _ _ (l.ensures.1 f.spelling f.spelled f.key) l.ensures.0
    _ c.in-Err.is _ w.1)

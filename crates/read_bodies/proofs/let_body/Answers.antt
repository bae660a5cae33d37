-- `read_bodies::let_body` meets its contract: a word that is declared, the mark `=`, and an E.
-- Assumes nothing.
use Rattle.read_bodies.proofs.Bodies.{let_none, let_unequal, let_passed}
use Rattle.read_bodies.proofs.NextWords.{no_word, token_found, declared_missing}
use Rattle.read_next.proofs.Next.{mark_stands, mark_missing}
use native.Mathlib.Omega.{arith}
use borrow.Enum.Refused.{opened as unsealed}
use Rattle.read_bodies.proofs.let_body.Goals as goal

pub returns-in_default : goal.returns-in_default
returns-in_default c =
    let w = c.fail.ensures in
    rw w.0 (w.1, λ q m. let_none _ (declared_missing _ _ _ c.token_at-t.ensures (no_word c.token_at-t.result (unsealed c.in_default.in_default-own.keys2))))

pub returns-in_default-mark_next : goal.returns-in_default-mark_next
returns-in_default-mark_next c =
    let w = c.fail-in_default-mark_next.ensures in
    rw w.0 (w.1, λ q m. let_unequal _ _ _ _ (token_found _ _ _ _ c.token_at-t.ensures c.in-Word.is) (mark_missing _ _ _ c.in_default-mark_next.ensures))

pub expression_then-requires : goal.expression_then-requires
expression_then-requires c =
    let w = token_found _ _ _ _ c.token_at-t.ensures c.in-Word.is in
    let m = mark_stands _ _ _ _ c.in-Some.ensures in
    omega (arith, w.after, w.within, m.after, m.within, c.requires)

pub returns : goal.returns
returns c =
    let m = mark_stands _ _ _ _ c.in-Some.ensures in
    let_passed _ _ _ _ (token_found _ _ _ _ c.token_at-t.ensures c.in-Word.is) _ m _ c.token_at-t.ensures c.in-Word.is _ _ c.args.used _ _ _
    c.declaration_slip-slip.ensures c.expression_then.result c.expression_then.ensures

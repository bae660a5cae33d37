-- `read_bodies::within_body` meets its contract: a relation's name, and two bracketed T.
-- Assumes nothing.
use Rattle.read_bodies.proofs.Bodies.{within_none, within_reserved, within_passed}
use Rattle.read_bodies.proofs.NextWords.{no_word, token_found, name_missing}
use mathlib.Core.List.{[]}
use native.Mathlib.Omega.{arith}
use borrow.Enum.Refused.{opened as unsealed}
use Rattle.read_bodies.proofs.within_body.Goals as goal

pub returns-in_default : goal.returns-in_default
returns-in_default c =
    let w = c.fail.ensures in
    rw w.0 (w.1, λ q m. within_none _ (name_missing _ _ _ c.token_at-t.ensures (no_word c.token_at-t.result (unsealed c.in_default.in_default-own.keys2)) (λ n. n)))

pub returns-then-reserved : goal.returns-then-reserved
returns-then-reserved c =
    let w = c.fail-then-reserved.ensures in
    rw w.0 (w.1, λ q m. within_reserved _ [] 0 _ 0 _ _ (token_found _ _ _ _ c.token_at-t.ensures c.in-Word.is) _ c.reserved.ensures c.if-reserved.true)

pub limits-requires : goal.limits-requires
limits-requires c =
    let w = token_found _ _ _ _ c.token_at-t.ensures c.in-Word.is in
    omega (arith, w.after, w.within, c.requires)

pub returns : goal.returns
returns c =
    within_passed _ _ _ _ c.args.used _ _ (token_found _ _ _ _ c.token_at-t.ensures c.in-Word.is) _ c.reserved.ensures c.if-reserved.false _ _ _
    c.find-c.ensures c.slip_of.ensures c.relation_number.ensures.0 _ _ c.limits.result c.limits.ensures

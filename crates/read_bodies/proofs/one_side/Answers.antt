-- `read_bodies::one_side` meets its contract: the next word says which code stands behind the E.
-- Assumes nothing.
use Rattle.read_bodies.proofs.Sides.{side_passed, side_empty, side_irreflexive, side_none}
use Rattle.read_bodies.proofs.NextWords.{keyword_stands, keyword_missing}
use native.Mathlib.Omega.{arith}
use Rattle.read_bodies.proofs.one_side.Goals as goal

pub expression_then-requires : goal.expression_then-requires
expression_then-requires c =
    let w = keyword_stands _ _ 9 (omega arith) _ c.key.ensures _ c.in-Some.ensures in
    omega (arith, w.after, w.within, c.requires)

pub returns-in-Some : goal.returns-in-Some
returns-in-Some c = λ f g b i j.
    let w = keyword_stands _ _ 9 (omega arith) _ c.key.ensures _ c.in-Some.ensures in
    side_passed _ f _ b i _ _ _ c.args.at _ c.args.used _ _ (side_empty f g _ _ _ w) (omega (arith, w.after)) c.expression_then.result c.expression_then.ensures

pub expression_then-requires-in-Some-word_next : goal.expression_then-requires-in-Some-word_next
expression_then-requires-in-Some-word_next c =
    let w = keyword_stands _ _ 11 (omega arith) _ c.key-2.ensures _ c.in-Some-word_next.ensures in
    omega (arith, w.after, w.within, c.requires)

pub returns-in-Some-word_next : goal.returns-in-Some-word_next
returns-in-Some-word_next c = λ f g b i j.
    let v = keyword_missing _ _ 9 (omega arith) _ c.key.ensures c.in_default.ensures in
    let w = keyword_stands _ _ 11 (omega arith) _ c.key-2.ensures _ c.in-Some-word_next.ensures in
    side_passed _ g _ b j _ _ _ c.args.at _ c.args.used _ _ (side_irreflexive f g _ _ v _ w) (omega (arith, w.after)) c.expression_then-in-Some-word_next.result c.expression_then-in-Some-word_next.ensures

pub returns : goal.returns
returns c = λ f g b i j.
    let z = c.fail.ensures in
    let v = keyword_missing _ _ 9 (omega arith) _ c.key.ensures c.in_default.ensures in
    let w = keyword_missing _ _ 11 (omega arith) _ c.key-2.ensures c.in_default-word_next.ensures in
    rw z.0 (z.1, λ q m. side_none f g c.args.s.now c.args.at v w)

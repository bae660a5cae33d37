-- `read_bodies::two_sides` meets its contract: an E, the word `in`, and an E.
-- Assumes nothing.
use Rattle.read_bodies.proofs.Sides.{include_failed, include_missing, include_passed}
use Rattle.read_bodies.proofs.NextWords.{keyword_stands, keyword_missing}
use native.Mathlib.Omega.{arith}
use Rattle.std.proofs.lemmas.Result.{err_from_is_err_and}
use Rattle.read_bodies.proofs.two_sides.Goals as goal

pub returns-in_err-g : goal.returns-in_err-g
returns-in_err-g c =
    let a = c.args in
    let p = err_from_is_err_and c.from_residual.result c.from_residual.ensures.1 in
    rw (p.1, p.2) (include_failed a.s.now a.names.now a.n a.at a.used a.out.now c.expression_then.new.out c.in_err-g.field-0.0 c.in_err-g.ensures)

pub returns-in_default : goal.returns-in_default
returns-in_default c =
    let w = c.fail.ensures in
    rw w.0
    (include_missing _ _ _ _ _ _ _ _ c.in_ok-g.ensures (keyword_missing _ _ 8 (omega arith) _ c.key.ensures c.in_default.ensures) _ w.1)

pub expression_then-requires-2 : goal.expression_then-requires-2
expression_then-requires-2 c =
    let f = c.in_ok-g.ensures.0 in
    let w = keyword_stands _ _ 8 (omega arith) _ c.key.ensures _ c.in-Some.ensures in
    omega (arith, f.room, f.within, w.after, w.within, c.requires)

pub returns : goal.returns
returns c = include_passed _ _ _ _ _ _ _ _ c.in_ok-g.ensures _ (keyword_stands _ _ 8 (omega arith) _ c.key.ensures _ c.in-Some.ensures) _ c.expression_then-2.result c.expression_then-2.ensures

-- `read_bodies::bracketed` meets its contract: a bracket that is not there is a fault of the notation, and between the two stands a T.
-- Assumes nothing.
use Rattle.read_bodies.proofs.Parts.{bracket_missing, bracket_failed, bracket_unclosed, bracket_got}
use Rattle.read_next.proofs.Next.{mark_stands, mark_missing}
use native.Mathlib.Omega.{arith}
use Rattle.std.proofs.lemmas.Result.{err_from_is_err_and}
use Rattle.read_bodies.proofs.bracketed.Goals as goal

pub returns-in_default : goal.returns-in_default
returns-in_default c =
    let w = c.fail.ensures in
    rw w.0 (w.1, λ q k. bracket_missing _ (mark_missing _ _ _ c.in_default.ensures))

pub condition_then-requires : goal.condition_then-requires
condition_then-requires c =
    let m = mark_stands _ _ _ _ c.in-Some.ensures in
    omega (arith, m.after, m.within, c.requires)

pub returns-in_err-g : goal.returns-in_err-g
returns-in_err-g c =
    let a = c.args in
    let p = err_from_is_err_and c.from_residual.result c.from_residual.ensures.1 in
    rw (p.1, p.2) (bracket_failed a.s.now a.names.now a.n a.p _ (mark_stands _ _ _ _ c.in-Some.ensures)
    a.out.now c.condition_then.new.out c.in_err-g.field-0.0 c.in_err-g.ensures)

pub returns-in_default-mark_next : goal.returns-in_default-mark_next
returns-in_default-mark_next c =
    let w = c.fail-in_default-mark_next.ensures in
    rw w.0
    (bracket_unclosed _ _ _ _ _ (mark_stands _ _ _ _ c.in-Some.ensures) _ _ _ c.in_ok-g.ensures (mark_missing _ _ _ c.in_default-mark_next.ensures) _ w.1)

pub returns : goal.returns
returns c =
    bracket_got _ _ _ _ _ (mark_stands _ _ _ _ c.in-Some.ensures) _ _ _ c.in_ok-g.ensures _ (mark_stands _ _ _ _ c.in-Some-mark_next.ensures)

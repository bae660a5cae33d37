-- `read_exprs::postfixes` meets its contract. The invariant: the postfixes passed wrap whichever tree stands before them, and their
-- codes are stored. The measure is what is left of the line.
-- Assumes nothing.
use native.Mathlib.Omega.{arith}
use Rattle.read_exprs.proofs.PostfixRuns.{wrapping_start, wrapping_end, sign_room, sign_onward, wrapping_more}
use Rattle.read_exprs.proofs.postfixes.Goals as goal

pub loop-sign-init : goal.loop-sign-init
loop-sign-init c =
    let a = c.args in
    wrapping_start a.s.now a.p a.out.now

pub returns : goal.returns
returns c =
    let a = c.args in
    let l = c.loop-sign in
    wrapping_end a.s.now a.p a.out.now l.at l.used l.out l.invariant c.in_default.ensures

pub bounds-out-used : goal.bounds-out-used
bounds-out-used c =
    let a = c.args in
    let l = c.loop-sign in
    sign_room a.s.now a.p a.out.now l.at l.used l.out l.invariant _ c.in-Some.ensures
    c.requires

pub overflow_add-used : goal.overflow_add-used
overflow_add-used c =
    let a = c.args in
    let l = c.loop-sign in
    let h = sign_room a.s.now a.p a.out.now l.at l.used l.out l.invariant _ c.in-Some.ensures c.requires in
    omega arith

pub loop-sign-smaller : goal.loop-sign-smaller
loop-sign-smaller c =
    let a = c.args in
    let l = c.loop-sign in
    sign_onward a.s.now a.p a.out.now l.at l.used l.out l.invariant _ c.in-Some.ensures

pub loop-sign-preserved : goal.loop-sign-preserved
loop-sign-preserved c =
    let a = c.args in
    let l = c.loop-sign in
    wrapping_more a.s.now a.p a.out.now l.at l.used l.out l.invariant _ c.in-Some.ensures

-- `rows::lowest_of` meets its contract. The invariant: the lowest event of those from x on is the lowest of all, since none before is in a loop.
-- Assumes nothing.
use native.Mathlib.Omega.{arith}
use mathlib.Core.Path.{◌∙◌}
use Rattle.rows.proofs.Sought.{loop_begin, loop_more, loop_found, loop_end}
use Rattle.rows.proofs.lowest_of.Goals as goal

pub loop-x-init : goal.loop-x-init
loop-x-init c =
    let a = c.args in
    (omega arith, c.least-m.ensures, loop_begin a.t.now a.n)

pub returns-then-member : goal.returns-then-member
returns-then-member c =
    let l = c.loop-x in
    let m = c.member in
    let a = c.args in
    loop_found a.t.now l.x a.n m.result (omega arith) m.ensures c.if-member.true ∙ l.invariant.2

pub loop-x-preserved : goal.loop-x-preserved
loop-x-preserved c =
    let l = c.loop-x in
    let m = c.member in
    let a = c.args in
    (omega arith, l.invariant.1, loop_more a.t.now l.x a.n m.result (omega arith) m.ensures c.if-member.false ∙ l.invariant.2)

pub returns : goal.returns
returns c =
    let l = c.loop-x in
    let a = c.args in
    loop_end a.t.now l.x a.n (omega arith) ∙ l.invariant.2

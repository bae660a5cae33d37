-- `rows::join` meets its contract. The invariant: what is left of the rows, changed in the table as it is, gives all of them changed in the table
-- at the start.
-- Assumes nothing.
use native.Mathlib.Omega.{arith}
use mathlib.Core.Path.{refl}
use Rattle.rows.proofs.EachRow.{each_begin, each_more, each_end, join_row, rows_joined}
use Rattle.rows.proofs.join.Goals as goal

pub loop-x-init : goal.loop-x-init
loop-x-init c = each_begin (join_row c.args.u.now) c.args.t.now

pub loop-x-preserved : goal.loop-x-preserved
loop-x-preserved c =
    let l = c.loop-x in
    let a = c.args in
    each_more (join_row a.u.now) a.t.now l.t l.x _ l.invariant (omega arith) refl

pub returns : goal.returns
returns c =
    let l = c.loop-x in
    let a = c.args in
    rows_joined a.t.now a.u.now l.t (omega arith)
    (each_end (join_row a.u.now) a.t.now l.t l.x l.invariant (omega arith))

-- `rows::compose` meets its contract. The invariant: what is left of the rows, put into the table as it is, gives the table with all of them.
-- Assumes nothing.
use native.Mathlib.Omega.{arith}
use Rattle.rows.proofs.EachRow.{each_begin, each_more, each_end, compose_row, row_composed, rows_composed}
use Rattle.rows.proofs.compose.Goals as goal

pub loop-x-init : goal.loop-x-init
loop-x-init c =
    let a = c.args in
    each_begin (compose_row a.t.now a.u.now) a.out.now

pub loop-x-preserved : goal.loop-x-preserved
loop-x-preserved c =
    let l = c.loop-x in
    let r = c.union_rows in
    let a = c.args in
    each_more (compose_row a.t.now a.u.now) a.out.now l.out l.x r.result l.invariant (omega arith)
    (row_composed a.t.now a.u.now l.x c.word.result r.result c.word.ensures r.ensures)

pub returns : goal.returns
returns c =
    let l = c.loop-x in
    let a = c.args in
    rows_composed a.t.now a.u.now _ l.out (omega arith)
    (each_end (compose_row a.t.now a.u.now) a.out.now l.out l.x l.invariant (omega arith))

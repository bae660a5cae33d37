-- `rows::put_selves` meets its contract. The invariant: what is left of the rows, put into the table as it is, gives the table with all of them.
-- Assumes nothing.
use native.Mathlib.Omega.{arith}
use Rattle.rows.proofs.EachRow.{each_begin, each_more, each_end, test_row, self_put, rows_diagonal}
use Rattle.rows.proofs.put_selves.Goals as goal

pub loop-x-init : goal.loop-x-init
loop-x-init c =
    let a = c.args in
    each_begin (test_row a.s) a.t.now

pub loop-x-preserved : goal.loop-x-preserved
loop-x-preserved c =
    let l = c.loop-x in
    let a = c.args in
    each_more (test_row a.s) a.t.now l.t l.x c.marked.result l.invariant (omega arith)
    (self_put a.s l.x c.marked.result c.member.result (omega arith) c.member.ensures c.marked.ensures)

pub returns : goal.returns
returns c =
    let l = c.loop-x in
    let a = c.args in
    rows_diagonal a.s _ l.t (omega arith) (each_end (test_row a.s) a.t.now l.t l.x l.invariant (omega arith))

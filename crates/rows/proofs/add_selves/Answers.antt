-- `rows::add_selves` meets its contract. The invariant: what is left of the rows, changed in the table as it is, gives all of them changed in the table
-- at the start.
-- Assumes nothing.
use native.Mathlib.Omega.{arith}
use Rattle.rows.proofs.EachRow.{each_begin, each_more, each_end, self_row, rows_reflexive}
use Rattle.rows.proofs.add_selves.Goals as goal

pub loop-x-init : goal.loop-x-init
loop-x-init c =
    let a = c.args in
    each_begin (self_row a.n) a.t.now

pub loop-x-preserved : goal.loop-x-preserved
loop-x-preserved c =
    let l = c.loop-x in
    let a = c.args in
    each_more (self_row a.n) a.t.now l.t l.x c.marked.result l.invariant (omega arith) c.marked.ensures

pub returns : goal.returns
returns c =
    let l = c.loop-x in
    let a = c.args in
    rows_reflexive a.t.now a.n l.t (omega arith)
    (each_end (self_row a.n) a.t.now l.t l.x l.invariant (omega arith))

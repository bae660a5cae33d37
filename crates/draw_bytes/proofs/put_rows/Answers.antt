-- `draw_bytes::put_rows` meets its contract. The invariant: the rows that are left, put into the memory as it is, are all of them put into the
-- memory at the start.
-- Assumes nothing.
use native.Mathlib.Omega.{arith}
use mathlib.Core.Path.{ap}
use Rattle.draw_bytes.specs.Fields.{row_bytes}
use Rattle.print_line.proofs.Pieces.{range_more, range_end}
use Rattle.draw_bytes.proofs.Pieces.{a_row, rows_begin}
use Rattle.draw_bytes.proofs.put_rows.Goals as goal

pub loop-x-init : goal.loop-x-init
loop-x-init c =
    let a = c.args in
    (omega arith, rows_begin a.out.now a.at _ a.r a.n a.rows.now c.least-to.ensures)

pub loop-x-preserved : goal.loop-x-preserved
loop-x-preserved c =
    let l = c.loop-x in
    let a = c.args in (
      omega arith,
      range_more (a_row a.r a.rows.now) l.x a.n (omega arith) l.invariant.1 _
          (ap (row_bytes a.r l.x) c.word.ensures) c.put_row-to.ensures,
    )

pub shape_of-out : goal.shape_of-out
shape_of-out c = c.loop-x.invariant.1.same_length

pub returns : goal.returns
returns c =
    let l = c.loop-x in
    let a = c.args in
    range_end (a_row a.r a.rows.now) l.x a.n (omega arith) l.invariant.1

-- `draw_bytes::put_edges` meets its contract. The invariant: the relations that are left, put into the memory as it is, are all of them put into
-- the memory at the start.
-- Assumes nothing.
use native.Mathlib.Omega.{arith}
use mathlib.Core.Path.{refl}
use Rattle.draw_rows.specs.Rows.{table_at}
use Rattle.draw_bytes.specs.Bytes.{relation_bytes}
use Rattle.print_line.proofs.Pieces.{range_more, range_end}
use Rattle.draw_bytes.proofs.Relations.{edges_begin}
use Rattle.draw_bytes.proofs.put_edges.Goals as goal

pub loop-r-init : goal.loop-r-init
loop-r-init c =
    let a = c.args in
    (omega arith, edges_begin a.out.now a.at _ a.n (table_at a.tables.now) a.relations c.least-to.ensures)

pub loop-r-preserved : goal.loop-r-preserved
loop-r-preserved c =
    let l = c.loop-r in
    let a = c.args in (
      omega arith,
      range_more (relation_bytes a.n (table_at a.tables.now)) l.r a.relations (omega arith) l.invariant.1 _ refl
          c.put_relation-to.ensures,
    )

pub shape_of-out : goal.shape_of-out
shape_of-out c = c.loop-r.invariant.1.same_length

pub returns : goal.returns
returns c =
    let l = c.loop-r in
    let a = c.args in
    range_end (relation_bytes a.n (table_at a.tables.now)) l.r a.relations (omega arith) l.invariant.1

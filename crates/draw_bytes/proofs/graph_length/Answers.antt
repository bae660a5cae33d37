-- `draw_bytes::graph_length` meets its contract. The invariant: what was counted, and the length of what is left, is the length of all.
-- Assumes nothing.
use native.Mathlib.Omega.{arith}
use Rattle.draw_rows.specs.Rows.{table_at}
use Rattle.draw_bytes.specs.Bytes.{relation_bytes}
use Rattle.print_line.proofs.Pieces.{count_more, count_end}
use Rattle.draw_bytes.proofs.Relations.{graph_count_begin}
use Rattle.draw_bytes.proofs.graph_length.Goals as goal

pub loop-r-init : goal.loop-r-init
loop-r-init c =
    let a = c.args in
    (omega arith, omega arith, λ bs. graph_count_begin bs a.n (table_at a.tables.now) a.relations)

pub loop-r-preserved : goal.loop-r-preserved
loop-r-preserved c =
    let l = c.loop-r in
    let a = c.args in (
      omega arith,
      omega arith,
      λ bs. count_more (relation_bytes a.n (table_at a.tables.now)) l.r a.relations l.sum c.relation_length-sum.result _ (omega arith)
          c.relation_length-sum.ensures.1 (l.invariant.2 bs),
    )

pub returns : goal.returns
returns c =
    let l = c.loop-r in
    let a = c.args in
    λ bs. count_end (relation_bytes a.n (table_at a.tables.now)) l.r a.relations l.sum _ (omega arith) (l.invariant.2 bs)

-- `draw_bytes::rows_length` meets its contract. The invariant: what was counted, and the length of what is left, is the length of all.
-- Assumes nothing.
use native.Mathlib.Omega.{arith}
use mathlib.Core.Path.{◌∙◌, ap}
use lib.ListN.{length}
use Rattle.draw_bytes.specs.Fields.{row_bytes}
use Rattle.print_line.proofs.Pieces.{count_more, count_end}
use Rattle.draw_bytes.proofs.Pieces.{a_row}
use Rattle.draw_bytes.proofs.Relations.{rows_count_begin}
use Rattle.draw_bytes.proofs.rows_length.Goals as goal

pub loop-x-init : goal.loop-x-init
loop-x-init c =
    let a = c.args in
    (omega arith, omega arith, λ r. rows_count_begin r a.n a.rows.now)

pub loop-x-preserved : goal.loop-x-preserved
loop-x-preserved c =
    let l = c.loop-x in
    let a = c.args in (
      omega arith,
      omega arith,
      λ r. count_more (a_row r a.rows.now) l.x a.n l.sum c.row_length-sum.result _ (omega arith)
          (c.row_length-sum.ensures.1 r l.x ∙ ap (λ s. length (row_bytes r l.x s)) c.word.ensures) (l.invariant.2 r),
    )

pub returns : goal.returns
returns c =
    let l = c.loop-x in
    let a = c.args in
    (omega arith, λ r. count_end (a_row r a.rows.now) l.x a.n l.sum _ (omega arith) (l.invariant.2 r))

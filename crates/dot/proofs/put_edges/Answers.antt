-- `dot::put_edges` meets its contract. The invariant: the edges that are left, put into the memory as it is, are all of them put into the memory at
-- the start.
-- Assumes nothing.
use native.Mathlib.Omega.{arith}
use Rattle.print_line.proofs.Pieces.{left_begin}
use Rattle.dot.proofs.Lines.{edges_more, edges_end}
use Rattle.dot.proofs.put_edges.Goals as goal

pub loop-field-init : goal.loop-field-init
loop-field-init c = (omega arith, left_begin _ _ _ _ c.least-to.ensures)

pub loop-field-preserved : goal.loop-field-preserved
loop-field-preserved c =
    let l = c.loop-field in
    let a = c.args in
    (omega arith, edges_more a.text.now a.word.now a.edges.now a.n l.field (omega arith) l.invariant.1 c.is_step.ensures c.put_edge-to.ensures)

pub shape_of-out : goal.shape_of-out
shape_of-out c = c.loop-field.invariant.1.same_length

pub returns : goal.returns
returns c =
    let l = c.loop-field in
    let a = c.args in
    edges_end a.text.now a.word.now a.edges.now a.n l.field (omega arith) l.invariant.1

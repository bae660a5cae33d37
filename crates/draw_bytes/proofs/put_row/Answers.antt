-- `draw_bytes::put_row` meets its contract. The invariant: the edges to the members that are left, put into the memory as it is, are all of them
-- put into the memory at the start. The measure is the count of ones of the set left.
-- Assumes nothing.
use native.Mathlib.Omega.{arith}
use lib.Count.{trailing_le}
use Rattle.bits.proofs.Lowest.{lowest}
use Rattle.draw_bytes.proofs.Pieces.{an_edge, row_begin, set_more, set_end}
use borrow.Author.Rules.{rules}
use Rattle.draw_bytes.proofs.put_row.Goals as goal

pub loop-left-init : goal.loop-left-init
loop-left-init c =
    let a = c.args in
    (search rules, row_begin a.out.now a.at _ a.r a.x a.s c.least-to.ensures)

pub overflow_cast-y : goal.overflow_cast-y
overflow_cast-y c = omega (arith, trailing_le 64 c.loop-left.left)

pub loop-left-smaller : goal.loop-left-smaller
loop-left-smaller c = omega (arith, ((lowest 64 c.loop-left.left c.loop-left.invariant.0 c.loop-left-test.true)).count)

pub loop-left-preserved : goal.loop-left-preserved
loop-left-preserved c =
    let k = c in
    let l = k.loop-left in
    let a = k.args in
    (omega (arith, ((lowest 64 c.loop-left.left c.loop-left.invariant.0 c.loop-left-test.true)).less), set_more (an_edge a.r a.x) ((lowest 64 c.loop-left.left c.loop-left.invariant.0 c.loop-left-test.true)) l.invariant.1 c.put_edge-to.ensures)

pub shape_of-out : goal.shape_of-out
shape_of-out c = c.loop-left.invariant.1.same_length

pub returns : goal.returns
returns c =
    let l = c.loop-left in
    let a = c.args in
    set_end (an_edge a.r a.x) l.left c.loop-left-test.false l.invariant.1

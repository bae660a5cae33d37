-- `dot::put_tests` meets its contract. The invariant: the tests that are left, put into the memory as it is, are all of them put into the memory at the
-- start.
-- Assumes nothing.
use native.Mathlib.Omega.{arith}
use mathlib.Core.Path.{refl}
use Rattle.print_line.proofs.Pieces.{range_more, range_end}
use Rattle.dot.proofs.Lines.{a_test, tests_begin}
use Rattle.dot.proofs.put_tests.Goals as goal

pub loop-i-init : goal.loop-i-init
loop-i-init c =
    let a = c.args in
    (omega arith, tests_begin a.out.now a.at _ a.text.now a.atom c.least-to.ensures)

pub loop-i-preserved : goal.loop-i-preserved
loop-i-preserved c =
    let l = c.loop-i in
    let a = c.args in
    (omega arith, range_more (a_test a.text.now a.atom) l.i 6 (omega arith) l.invariant.1 _ refl c.put_test-to.ensures)

pub shape_of-out : goal.shape_of-out
shape_of-out c = c.loop-i.invariant.1.same_length

pub returns : goal.returns
returns c =
    let l = c.loop-i in
    let a = c.args in
    range_end (a_test a.text.now a.atom) l.i 6 (omega arith) l.invariant.1

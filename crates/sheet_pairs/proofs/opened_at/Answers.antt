-- `sheet_pairs::opened_at` meets its contract. The invariant: the pairs that open so far, and those that the rows left open, are all of them.
--
-- Assumes nothing.
use Prim.Native.Nat.{◌+◌}
use native.Mathlib.Nat.{pow-le-pow_right}
use native.Mathlib.Omega.{arith}
use mathlib.Core.Path.{sym, ◌∙◌}
use Rattle.sheet_standings.specs.RingCells.{row_m}
use Rattle.sheet_pairs.proofs.Opened.{passing_more, passing_end, sum_small, row_ends, opened_all, row_opens}
use Rattle.sheet_pairs.proofs.opened_at.Goals as goal

pub loop-p-init : goal.loop-p-init
loop-p-init c =
    let a = c.args in
    (omega arith, c.enders_at-e.ensures, opened_all a.right.now a.from.now a.a)

pub overflow_add-set : goal.overflow_add-set
unfolding row_m
overflow_add-set c =
    let l = c.loop-p in
    let a = c.args in
    omega (
      arith,
      sum_small l.p l.set c.opens-set.result (row_ends a.right.now a.from.now a.a l.p) l.invariant.0 (row_opens a.right.now a.from.now a.a l.p c.word.result _ c.opens-set.result c.word.ensures l.invariant.1 c.opens-set.ensures),
      pow-le-pow_right {n = 2} (omega arith) {i = l.p + 1} {j = 32} (omega arith),
    )

pub loop-p-preserved : goal.loop-p-preserved
unfolding row_m
loop-p-preserved c =
    let l = c.loop-p in
    let a = c.args in (
      sum_small l.p l.set c.opens-set.result (row_ends a.right.now a.from.now a.a l.p) l.invariant.0 (row_opens a.right.now a.from.now a.a l.p c.word.result _ c.opens-set.result c.word.ensures l.invariant.1 c.opens-set.ensures),
      l.invariant.1,
      passing_more (row_ends a.right.now a.from.now a.a) l.p l.set c.opens-set.result (omega arith) (row_opens a.right.now a.from.now a.a l.p c.word.result _ c.opens-set.result c.word.ensures l.invariant.1 c.opens-set.ensures) ∙ l.invariant.2,
    )

pub returns : goal.returns
returns c =
    let l = c.loop-p in
    let a = c.args in
    sym (passing_end (row_ends a.right.now a.from.now a.a) l.p l.set (omega arith)) ∙ l.invariant.2

-- `read_next::marks_next` meets its contract. The invariant: as many marks as were counted stand between the start and i. The measure is
-- what is left of the line.
-- Assumes nothing.
use native.Mathlib.Omega.{arith}
use Rattle.read_next.proofs.Next.{run_start, run_more, run_end, mark_stands, mark_missing}
use Rattle.read_next.proofs.marks_next.Goals as goal

pub loop-next-init : goal.loop-next-init
loop-next-init c = run_start _ _ _

pub returns : goal.returns
returns c = run_end _ _ _ _ _ c.loop-next.invariant (mark_missing _ _ _ c.in_default.ensures)

pub overflow_add-count : goal.overflow_add-count
overflow_add-count c =
    let m = mark_stands _ _ _ _ c.in-Some.ensures in
    omega (arith, m.after, m.within, c.loop-next.invariant.room)

pub loop-next-smaller : goal.loop-next-smaller
loop-next-smaller c =
    let m = mark_stands _ _ _ _ c.in-Some.ensures in
    omega (arith, m.after, m.within)

pub loop-next-preserved : goal.loop-next-preserved
loop-next-preserved c = run_more _ _ _ _ _ _ c.loop-next.invariant (mark_stands _ _ _ _ c.in-Some.ensures)

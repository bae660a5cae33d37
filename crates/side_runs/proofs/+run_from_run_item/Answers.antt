-- The proof of running a line of items and of one item, which call each other for a let. The measure is the place where the line starts,
-- and then which of the two it is: a let is entered only at a place before. The laws are those of `Running`; here they are cited.
-- Assumes nothing.
use Rattle.side_runs.proofs.Running.{left_all, left_next, left_end, left_none, item_below, item_above, item_let, item_late, step_args}
use Rattle.side_parts.specs.Machine.{machine_in}
use lib.ListN.{get_or}
use mathlib.Core.Path.{refl, ◌∙◌}
use native.Mathlib.Omega.{arith}
use Rattle.side_runs.proofs.+run_from_run_item.Goals as goal

pub run_from-loop-pc-init : goal.run_from-loop-pc-init
run_from-loop-pc-init t c = left_all c.args.codes.now c.args.needs.now c.args.from _ (machine_in c.args.table.now c.args.parts.now) c.skip_tests-pc.ensures

pub run_from-bounds-codes-pc : goal.run_from-bounds-codes-pc
run_from-bounds-codes-pc t c = c.loop-pc-test.true

pub run_from-returns-then-codes-pc-ge-LINE : goal.run_from-returns-then-codes-pc-ge-LINE
run_from-returns-then-codes-pc-ge-LINE t c = left_end c.args.codes.now c.args.needs.now c.args.from _ c.loop-pc.pc _ c.loop-pc.invariant c.loop-pc-test.true c.if-codes-pc-ge-LINE.true

pub run_from-run_item-requires : goal.run_from-run_item-requires
run_from-run_item-requires t c = (omega (arith), c.loop-pc-test.true)

pub run_from-loop-pc-smaller : goal.run_from-loop-pc-smaller
run_from-loop-pc-smaller t c = omega (arith, c.skip_tests-pc-in-loop-pc.ensures.0)

pub run_from-loop-pc-preserved : goal.run_from-loop-pc-preserved
run_from-loop-pc-preserved t c =
    left_next c.args.codes.now c.args.needs.now c.args.from _ c.loop-pc.pc _ c.loop-pc.invariant c.loop-pc-test.true c.if-codes-pc-ge-LINE.false _ c.run_item.ensures _ c.skip_tests-pc-in-loop-pc.ensures

pub run_from-returns : goal.run_from-returns
run_from-returns t c = left_none c.args.codes.now c.args.needs.now c.args.from _ c.loop-pc.pc _ c.loop-pc.invariant c.loop-pc-test.false

pub run_item-bounds-codes-pc : goal.run_item-bounds-codes-pc
run_item-bounds-codes-pc t c = c.requires

pub run_item-offset_bounds-needs-n : goal.run_item-offset_bounds-needs-n
run_item-offset_bounds-needs-n t c = omega (arith, c.min-n.ensures)

pub run_item-slice_bounds-step-count : goal.run_item-slice_bounds-step-count
run_item-slice_bounds-step-count t c = omega (arith, c.min-n.ensures)

pub run_item-returns-then-code-lt-A_LET : goal.run_item-returns-then-code-lt-A_LET
run_item-returns-then-code-lt-A_LET t c =
    item_below c.args.codes.now c.args.needs.now c.args.from c.args.pc (machine_in c.args.table.now c.args.parts.now) _ c.if-code-lt-A_LET.true
    (c.step.ensures ∙ step_args c.args.codes.now c.args.needs.now (get_or c.args.codes.now c.args.pc 0) _ _ _ _ c.word-arg.ensures c.min-n.ensures)

pub run_item-offset_bounds-needs-n-then-code-ge-LETS_END : goal.run_item-offset_bounds-needs-n-then-code-ge-LETS_END
run_item-offset_bounds-needs-n-then-code-ge-LETS_END t c = omega (arith, c.min-n.ensures)

pub run_item-slice_bounds-step-count-then-code-ge-LETS_END : goal.run_item-slice_bounds-step-count-then-code-ge-LETS_END
run_item-slice_bounds-step-count-then-code-ge-LETS_END t c = omega (arith, c.min-n.ensures)

pub run_item-returns-then-code-ge-LETS_END : goal.run_item-returns-then-code-ge-LETS_END
run_item-returns-then-code-ge-LETS_END t c =
    item_above c.args.codes.now c.args.needs.now c.args.from c.args.pc (machine_in c.args.table.now c.args.parts.now) _ c.if-code-ge-LETS_END.true
    (c.step-then-code-ge-LETS_END.ensures ∙ step_args c.args.codes.now c.args.needs.now (get_or c.args.codes.now c.args.pc 0) _ _ _ _ c.word-arg.ensures c.min-n.ensures)

pub run_item-returns-then-from-start : goal.run_item-returns-then-from-start
run_item-returns-then-from-start t c =
    item_late c.args.codes.now c.args.needs.now c.args.from c.args.pc (machine_in c.args.table.now c.args.parts.now) _ c.if-code-lt-A_LET.false c.if-code-ge-LETS_END.false _ c.word-arg.ensures
    c.if-from-start.true refl

pub run_item-run_from-requires : goal.run_item-run_from-requires
run_item-run_from-requires t c = (omega (arith, c.if-from-start.false), tt)

pub run_item-returns : goal.run_item-returns
run_item-returns t c =
    item_let c.args.codes.now c.args.needs.now c.args.from c.args.pc (machine_in c.args.table.now c.args.parts.now) _ c.if-code-lt-A_LET.false c.if-code-ge-LETS_END.false _ c.word-arg.ensures
    c.if-from-start.false c.run_from.ensures

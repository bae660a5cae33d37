-- `side_runs::run_kind` meets its contract. The invariant: what is left of the expressions, run on the machine now, is all of them run on the
-- machine at the start.
-- Assumes nothing.
use Rattle.side_runs.proofs.RunningAll.{rest_all, rest_inside, rest_other, rest_found, rest_count, rest_done}
use Rattle.side_runs.specs.Program.{counts_in}
use mathlib.Core.Path.{sym, ◌∙◌}
use native.Mathlib.Omega.{arith}
use Rattle.side_runs.proofs.run_kind.Goals as goal
use Rattle.side_runs.proofs.run_kind.Goals.{then-is_one, else-is_one}

pub loop-i-init : goal.loop-i-init
loop-i-init c = (omega arith, omega arith, omega arith, rest_all _ _ _ _)

pub loop-i-preserved-then-code-lt-LINE : goal.loop-i-preserved-then-code-lt-LINE
loop-i-preserved-then-code-lt-LINE c =
    (omega arith, omega (arith, c.loop-i.invariant.1), omega (arith, c.loop-i.invariant.2), rest_inside _ _ _ _ _ _ _ _ _ c.loop-i.invariant.3 (omega arith) c.if-code-lt-LINE.true)

pub is_one-requires : goal.is_one-requires
is_one-requires c = omega (arith, c.loop-i.invariant.1, c.loop-i.invariant.0)

pub overflow_add-line : goal.overflow_add-line
overflow_add-line c = omega (arith, c.loop-i.invariant.1, c.loop-i.invariant.0)

pub overflow_add-count : goal.overflow_add-count
overflow_add-count c = omega (arith, c.loop-i.invariant.2, c.loop-i.invariant.0)

pub loop-i-preserved : goal.loop-i-preserved
unfolding counts_in
loop-i-preserved c =
    elim c.if-is_one.branch [
      | then-is_one w ↦ (
        omega arith,
        omega (arith, c.loop-i.invariant.1),
        omega (arith, c.loop-i.invariant.2, w.count-is),
        rw (w.count-is, w.table-is, w.parts-is)
            (rest_found _ _ _ _ _ _ _ _ _ c.loop-i.invariant.3 (omega arith) c.if-code-lt-LINE.false (sym c.is_one.ensures ∙ w.if-is_one.true) _ w.run_from.ensures),
      )
      | else-is_one w ↦ (
        omega arith,
        omega (arith, c.loop-i.invariant.1),
        omega (arith, c.loop-i.invariant.2, w.count-is),
        rw (w.count-is, w.table-is, w.parts-is)
            (rest_other _ _ _ _ _ _ _ _ _ c.loop-i.invariant.3 (omega arith) c.if-code-lt-LINE.false (sym c.is_one.ensures ∙ w.if-is_one.false)),
      )
    ]

pub returns : goal.returns
returns c = (rest_count _ _ _ _ _ _ _ _ _ c.loop-i.invariant.3 (omega arith), rest_done _ _ _ _ _ _ _ _ _ c.loop-i.invariant.3 (omega arith))

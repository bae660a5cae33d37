-- `side_limits::count_kind` meets its contract. The invariant: what is left of the expressions, added to the sum, is all of them. The measure is what
-- is left of the codes.
-- Assumes nothing.
use native.Mathlib.Omega.{arith}
use mathlib.Core.Path.{sym, ◌∙◌}
use Rattle.side_limits.specs.Places.{not_out}
use Rattle.side_limits.proofs.PlaceSums.{kind_start, kind_inside, kind_other, kind_found, kind_all}
use Rattle.side_limits.proofs.count_kind.Goals as goal
use Rattle.side_limits.proofs.count_kind.Goals.{then-is_one, else-is_one}

pub loop-i-init : goal.loop-i-init
loop-i-init c = (omega arith, omega arith, kind_start _ _ _ _)

pub loop-i-preserved-then-code-lt-LINE : goal.loop-i-preserved-then-code-lt-LINE
loop-i-preserved-then-code-lt-LINE c =
    let at = c.loop-i in (
      omega arith,
      omega (arith, at.invariant.1),
      kind_inside _ _ _ _ _ _ _ _ at.invariant.2 (omega arith) c.if-code-lt-LINE.true,
    )

pub is_one-requires : goal.is_one-requires
is_one-requires c = omega (arith, c.loop-i.invariant.1, c.loop-i.invariant.0)

pub overflow_add-line : goal.overflow_add-line
overflow_add-line c = omega (arith, c.loop-i.invariant.1, c.loop-i.invariant.0)

pub loop-i-preserved : goal.loop-i-preserved
unfolding not_out
loop-i-preserved c =
    let at = c.loop-i in
    elim c.if-is_one.branch [
      | then-is_one w ↦ (
        omega arith,
        omega (arith, at.invariant.1),
        rw w.sum-is
            (kind_found _ _ _ _ _ _ _ _ at.invariant.2 (omega arith) c.if-code-lt-LINE.false (sym c.is_one.ensures ∙ w.if-is_one.true) _ _ w.count_at.ensures w.add-sum.ensures),
      )
      | else-is_one w ↦ (
        omega arith,
        omega (arith, at.invariant.1),
        rw w.sum-is (kind_other _ _ _ _ _ _ _ _ at.invariant.2 (omega arith) c.if-code-lt-LINE.false (sym c.is_one.ensures ∙ w.if-is_one.false)),
      )
    ]

pub returns : goal.returns
returns c = kind_all _ _ _ _ _ _ _ _ c.loop-i.invariant.2 (omega arith)

use native.Mathlib.Omega.{arith}
use mathlib.Core.Path.{sym, ◌∙◌}
use Rattle.small_graphs.proofs.Rounds.{round_start, round_with, round_without, round_end}
use Rattle.small_graphs.proofs.through.Goals as goal
use Rattle.small_graphs.proofs.through.Goals.{then-has, else-has}

pub loop-from-init : goal.loop-from-init
loop-from-init c = (omega arith, round_start _ _)

pub loop-from-preserved : goal.loop-from-preserved
loop-from-preserved c =
    let at = c.loop-from in
    let a = c.args in
    let e = c.has.ensures in
    elim c.if-has.branch [
      | then-has w ↦ (omega arith, round_with a.r a.middle at.all at.from _ w.all-is (sym e ∙ w.if-has.true) at.invariant.1)
      | else-has w ↦ (omega arith, round_without a.r a.middle at.all at.from _ w.all-is (sym e ∙ w.if-has.false) at.invariant.1)
    ]

pub returns : goal.returns
returns c = round_end _ _ _ _ c.loop-from-test.false c.loop-from.invariant.1

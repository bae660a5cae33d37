use native.Mathlib.Omega.{arith}
use mathlib.Core.Path.{refl}
use Rattle.small_graphs.proofs.Rounds.{rounds_more, rounds_end}
use Rattle.small_graphs.proofs.closed.Goals as goal

pub loop-middle-init : goal.loop-middle-init
loop-middle-init c = (omega arith, λ x y h k. refl)

pub loop-middle-preserved : goal.loop-middle-preserved
loop-middle-preserved c =
    let at = c.loop-middle in
    (omega arith, rounds_more _ at.all c.args.r at.middle (omega arith) at.invariant.1 c.through-all.ensures)

pub returns : goal.returns
returns c =
    let at = c.loop-middle in rounds_end at.all c.args.r at.middle (omega arith) at.invariant.1

-- `sheet_cover::close` meets its contract. The invariant: the memory is that after the rounds done so far.
-- Assumes nothing.
use native.Mathlib.Omega.{arith}
use mathlib.Core.Path.{◌≡◌, ◌∙◌, ap}
use Rattle.sheet_cover.specs.inner.Rounds.{rounds}
use Rattle.sheet_cover.proofs.Rounds.{rounds_begin, rounds_more}
use Rattle.sheet_cover.proofs.close.Goals as goal

pub loop-k-init : goal.loop-k-init
loop-k-init c = rounds_begin c.args.t.now c.args.hi

pub loop-k-preserved : goal.loop-k-preserved
loop-k-preserved c =
    let l = c.loop-k in
    rounds_more c.args.t.now c.args.hi l.k l.t _ l.invariant c.close_through.ensures

pub returns : goal.returns
returns c =
    let e : c.loop-k.k ≡ c.args.hi = omega arith in
    c.loop-k.invariant ∙ ap (rounds c.args.t.now c.args.hi) e

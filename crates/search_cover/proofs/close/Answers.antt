-- `search_cover::close` meets its contract. The invariant: the memory is that after the rounds done so far.
-- Assumes nothing.
use native.Mathlib.Omega.{arith}
use mathlib.Core.Path.{◌≡◌, ◌∙◌, ap}
use Rattle.search_cover.specs.inner.Rounds.{rounds}
use Rattle.search_cover.proofs.Rounds.{rounds_begin, rounds_more}
use borrow.Author.Rules.{rules}
use Rattle.search_cover.proofs.close.Goals as goal

pub loop-k-init : goal.loop-k-init
loop-k-init c =
    let a = c.args in
    (search rules, omega arith, rounds_begin a.t.now a.hi)

pub loop-k-preserved : goal.loop-k-preserved
loop-k-preserved c =
    let r = c.close_through in
    let l = c.loop-k in
    let a = c.args in (
      r.auto.t ∙ l.invariant.0,
      omega arith,
      rounds_more a.t.now a.hi l.k l.t _ l.invariant.2 r.ensures,
    )

pub returns : goal.returns
returns c =
    let l = c.loop-k in
    let a = c.args in
    let e : l.k ≡ a.hi = omega arith in
    l.invariant.2 ∙ ap (rounds a.t.now a.hi) e

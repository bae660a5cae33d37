-- `rows::close` meets its contract. The invariant: the memory is that after the rounds done so far.
-- Assumes nothing.
use native.Mathlib.Omega.{arith}
use mathlib.Core.Path.{◌≡◌, ◌∙◌, ap}
use Rattle.rows.specs.Rows.{rounds}
use Rattle.rows.proofs.Rounds.{rounds_begin, rounds_more}
use borrow.Author.Rules.{rules}
use Rattle.rows.proofs.close.Goals as goal

pub loop-k-init : goal.loop-k-init
loop-k-init c =
    let a = c.args in
    (search rules, omega arith, rounds_begin a.t.now a.n)

pub loop-k-preserved : goal.loop-k-preserved
loop-k-preserved c =
    let j = c.join_where in
    let l = c.loop-k in
    let a = c.args in (
      j.auto.t ∙ l.invariant.0,
      omega arith,
      rounds_more a.t.now a.n l.k _ l.t _ l.invariant.2 c.word.ensures j.ensures,
    )

pub returns : goal.returns
returns c =
    let l = c.loop-k in
    let a = c.args in
    let e : l.k ≡ a.n = omega arith in
    l.invariant.2 ∙ ap (rounds a.t.now a.n) e

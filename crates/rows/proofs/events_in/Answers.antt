-- `rows::events_in` meets its contract. The invariant: the set so far is that of the events passed.
-- Assumes nothing.
use native.Mathlib.Omega.{arith}
use mathlib.Core.Path.{◌≡◌, ◌∙◌, ap}
use mathlib.Core.Bool.{cond}
use Rattle.claims.specs.Query.{bit}
use Rattle.bits.specs.Sets.{including}
use Rattle.rows.specs.Rows.{events_in}
use Rattle.rows.proofs.Events.{events_none, events_more, events_all}
use Rattle.rows.proofs.events_in.Goals as goal

pub loop-x-init : goal.loop-x-init
loop-x-init c =
    let a = c.args in
    (omega arith, events_none a.atoms.now a.s)

pub loop-x-preserved : goal.loop-x-preserved
loop-x-preserved c =
    let l = c.loop-x in
    let m = c.member in
    let a = c.args in (
      omega arith,
      c.marked-all.ensures ∙ ap (λ w. cond m.result (including 64 w l.x) w) l.invariant.1
          ∙ events_more a.atoms.now a.s l.x (omega arith) m.result
          (m.ensures ∙ ap (λ k. bit k a.s) c.word.ensures),
    )

pub returns : goal.returns
returns c =
    let l = c.loop-x in
    let a = c.args in
    let e : l.x ≡ c.least-m.result = omega arith in
    l.invariant.1 ∙ ap (λ k. events_in a.atoms.now k a.s) e
    ∙ events_all a.atoms.now a.s a.n c.least-m.result c.least-m.ensures

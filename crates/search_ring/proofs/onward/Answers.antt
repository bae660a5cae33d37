-- `search_ring::onward` meets its contract.
-- Assumes nothing.
use native.Mathlib.Omega.{arith}
use mathlib.Core.Path.{◌≡◌, ◌∙◌, ap}
use mathlib.Core.Bool.{not, ◌||◌}
use lib.Dec.{eqb}
use lib.ListN.{length, get_or, take}
use Rattle.kat.specs.Lists.{upto}
use Rattle.claims.specs.Standings.{Letter}
use Rattle.search_standings.specs.RingWords.{flag}
use Rattle.search_ring.specs.inner.Columns.{spread_over}
use Rattle.search_ring.proofs.Standing.{onward_laid}
use Rattle.search_ring.proofs.onward.Goals as goal

pub returns : goal.returns
returns c =
    let b = c in
    let d = c in
    let e = c in
    let a = e.args in
    let s = take 34 a.from.now in
    let full : length a.to.now ≡ 40 = omega arith in
    let l : Letter = record { atom = a.a; relation = a.r } in
    onward_laid a.left.now a.right.now l a.to.now full _ _ b.opened_at-fresh.result s _ _ _
    (c.spread.ensures ∙ ap (spread_over a.right.now l (λ o. get_or s o 0) (upto 1 32)) b.wipe.ensures)
    b.opened_at-fresh.ensures c.send.ensures e.step_set-p.ensures
    (d.flagged-z.ensures ∙ ap (λ n. flag (not (eqb (get_or s 33 0) 0) || n)) d.null_at.ensures) c.lay_out.ensures

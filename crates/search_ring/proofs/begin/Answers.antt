-- `search_ring::begin` meets its contract.
-- Assumes nothing.
use Prim.Native.Nat.{suc, ◌^◌}
use native.Mathlib.Omega.{arith}
use mathlib.Core.Path.{◌≡◌, ◌∙◌, ap}
use lib.ListN.{length}
use Rattle.kat.specs.Lists.{upto}
use Rattle.claims.specs.Standings.{Letter}
use Rattle.search_standings.specs.RingWords.{flag}
use Rattle.search_ring.specs.inner.Columns.{spread_over}
use Rattle.search_ring.proofs.Standing.{begin_laid}
use Rattle.search_ring.proofs.begin.Goals as goal

pub returns : goal.returns
returns c =
    let b = c in
    let d = c in
    let a = d.args in
    let full : length a.to.now ≡ 40 = omega arith in
    let l : Letter = record { atom = a.a; relation = a.r } in
    begin_laid a.left.now a.right.now l a.to.now full a.n b.least-m.result _ _ _ _
    b.least-m.ensures
    (c.spread_single.ensures ∙ ap (spread_over a.right.now l (λ o. 2 ^ o) (upto 0 (suc b.least-m.result))) b.wipe.ensures)
    d.step_from-p.ensures (d.flagged-z.ensures ∙ ap flag d.null_at.ensures) c.lay_out.ensures

-- `search_cover::first_final` meets its contract.
-- Assumes nothing.
use mathlib.Core.Path.{refl, sym, ◌∙◌, ap, ap₂}
use mathlib.Core.Bool.{cond, not, ◌&&◌}
use lib.ListN.{get_or, take}
use Rattle.search_standings.specs.RingWords.{ring_covered}
use Rattle.search_cover.proofs.Finals as finals
use Rattle.search_cover.proofs.first_final.Goals as goal

pub returns-then-covered : goal.returns-then-covered
returns-then-covered c =
    let d = c in
    let a = d.args in
    sym (ap₂ (λ x y. cond (x && not y) (get_or a.s.now 32 0) 64) c.if-ends_live.true c.if-covered.true)
    ∙ finals.first_final a.left.now a.right.now a.n a.live a.s.now _ _ d.ends_live.ensures c.covered.ensures

pub returns-then-ends_live : goal.returns-then-ends_live
returns-then-ends_live c =
    let d = c in
    let a = d.args in
    sym (ap₂ (λ x y. cond (x && not y) (get_or a.s.now 32 0) 64) c.if-ends_live.true c.if-covered.false)
    ∙ finals.first_final a.left.now a.right.now a.n a.live a.s.now _ _ d.ends_live.ensures c.covered.ensures

pub returns : goal.returns
returns c =
    let a = c.args in
    sym (ap (λ x. cond (x && not (ring_covered a.right.now a.n (take 34 a.s.now))) (get_or a.s.now 32 0) 64) c.if-ends_live.false)
    ∙ finals.first_final a.left.now a.right.now a.n a.live a.s.now _ _ c.ends_live.ensures refl

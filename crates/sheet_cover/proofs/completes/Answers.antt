-- `sheet_cover::completes` meets its contract.
-- Assumes nothing.
use mathlib.Core.Path.{refl, sym, ◌∙◌, ap}
use mathlib.Core.Bool.{not, ◌&&◌}
use Rattle.claims.specs.Query.{bit}
use Rattle.standings.specs.Steps.{ends_set}
use Rattle.sheet_standings.specs.RingCells.{first_in, ring_covered}
use Rattle.sheet_cover.proofs.Finals.{ring_completes}
use Rattle.sheet_cover.proofs.completes.Goals as goal

pub returns-then-ends_live : goal.returns-then-ends_live
unfolding first_in
returns-then-ends_live c =
    let e = c in
    let a = e.args in
    ap (λ b. b && not c.covered.result) (sym c.if-ends_live.true)
    ∙ ring_completes a.left.now a.right.now a.n a.live a.s.now _ _
    (e.ends_live.ensures ∙ ap (λ p. bit (first_in a.s.now) a.live && ends_set a.left.now p (first_in a.s.now)) e.left_of.ensures)
    c.covered.ensures

pub returns : goal.returns
unfolding first_in
returns c =
    let e = c in
    let a = e.args in
    ap (λ b. b && not (ring_covered a.right.now a.n a.s.now)) (sym c.if-ends_live.false)
    ∙ ring_completes a.left.now a.right.now a.n a.live a.s.now _ _
    (e.ends_live.ensures ∙ ap (λ p. bit (first_in a.s.now) a.live && ends_set a.left.now p (first_in a.s.now)) e.left_of.ensures)
    refl

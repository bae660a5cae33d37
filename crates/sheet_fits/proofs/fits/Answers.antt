-- `sheet_fits::fits` meets its contract: by the kind of the claim.
-- Assumes nothing.
use mathlib.Core.Path.{sym, ◌∙◌, ap, subst}
use lib.ListN.{take}
use Rattle.sheet_standings.specs.Layout.{cell_count}
use Rattle.sheet_standings.specs.CellSystem.{cells_fit}
use Rattle.sheet_fits.specs.Small.{SmallCells}
use Rattle.sheet_fits.proofs.fits.Goals as goal

pub ring_fits-requires : goal.ring_fits-requires
unfolding cell_count
ring_fits-requires c = subst (λ b. SmallCells (cell_count b) c.args.s.now) c.if-ring.true c.requires

pub returns-then-ring : goal.returns-then-ring
unfolding cell_count cells_fit
returns-then-ring c =
    let a = c.args in
    c.ring_fits.ensures ∙ ap (λ b. cells_fit b a.atoms a.l a.r (take (cell_count b) a.s.now)) (sym c.if-ring.true)

pub path_fits-requires : goal.path_fits-requires
unfolding cell_count
path_fits-requires c = subst (λ b. SmallCells (cell_count b) c.args.s.now) c.if-ring.false c.requires

pub returns : goal.returns
unfolding cell_count cells_fit
returns c =
    let a = c.args in
    c.path_fits.ensures ∙ ap (λ b. cells_fit b a.atoms a.l a.r (take (cell_count b) a.s.now)) (sym c.if-ring.false)

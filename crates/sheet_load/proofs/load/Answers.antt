-- `sheet_load::load` meets its contract, by the kind of the claim; a place past the sheet is as good as its end.
-- Assumes nothing.
use mathlib.Core.Path.{◌∙◌, ap}
use Rattle.fields.specs.Places.{cells_at}
use Rattle.sheet_load.proofs.ByKind.{loads_ring, loads_path}
use Rattle.sheet_load.proofs.load.Goals as goal

pub returns-then-ring : goal.returns-then-ring
returns-then-ring c =
    loads_ring _ _ _ c.least-from.ensures _ c.if-ring.true _
    (c.fill.ensures ∙ ap (cells_at _ _) c.fill-arg-1.given.0.1)

pub returns : goal.returns
returns c =
    loads_path _ _ _ c.least-from.ensures _ c.if-ring.false _ _ c.fill_four.ensures

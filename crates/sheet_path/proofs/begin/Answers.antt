-- `sheet_path::begin` meets its contract: the first four cells are P and S.
-- Assumes nothing.
use mathlib.Core.Path.{◌∙◌, ap₂}
use Rattle.sheet_standings.specs.PathCells.{path_cells, path_begin}
use borrow.Author.Rules.{rules}
use Rattle.sheet_path.proofs.begin.Goals as goal

pub returns : goal.returns
unfolding path_begin
returns c =
    let b = c in (
      c.put.ensures.0 ∙ ap₂ path_cells b.step_from-p.ensures b.step_from-s.ensures,
      c.put.ensures.1,
      c.put.ensures.2,
    )

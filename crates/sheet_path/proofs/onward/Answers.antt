-- `sheet_path::onward` meets its contract: the first four cells are P and S.
-- Assumes nothing.
use mathlib.Core.Path.{◌∙◌, ap, ap₂}
use Rattle.standings.specs.Steps.{step_set}
use Rattle.sheet_standings.specs.PathCells.{path_cells, path_onward}
use borrow.Author.Rules.{rules}
use Rattle.sheet_path.proofs.onward.Goals as goal

pub returns : goal.returns
unfolding path_onward
returns c =
    let s = c in
    let p = c in
    let a = p.args in (
      c.put.ensures.0
          ∙ ap₂ path_cells
          (p.step_set-p.ensures ∙ ap (λ w. step_set a.left.now w a.a a.r) p.left_of.ensures)
          (s.step_set-s.ensures ∙ ap (λ w. step_set a.right.now w a.a a.r) s.right_of.ensures),
      c.put.ensures.1,
      c.put.ensures.2,
    )

-- `search_path::begin` meets its contract.
-- Assumes nothing.
use mathlib.Core.Path.{◌∙◌, ap₂}
use mathlib.Core.List.{[], ◌∷◌}
use Rattle.search_standings.specs.PathWords.{path_begin}
use borrow.Author.Rules.{rules}
use Rattle.search_path.proofs.begin.Goals as goal

pub returns : goal.returns
unfolding path_begin
returns c = (
  c.put.ensures.0
      ∙ ap₂ (λ p s. p ∷ s ∷ []) c.step_from-p.ensures c.step_from-s.ensures,
  c.put.ensures.1,
)

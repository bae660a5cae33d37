-- `search_path::onward` meets its contract: the first two words are P and S.
-- Assumes nothing.
use mathlib.Core.Path.{sym, ◌∙◌, ap, ap₂}
use mathlib.Core.List.{[], ◌∷◌}
use Rattle.standings.specs.Steps.{step_set}
use Rattle.search_standings.specs.PathWords.{path_onward}
use Rattle.search_path.proofs.Two.{first_read, second_read}
use borrow.Author.Rules.{rules}
use Rattle.search_path.proofs.onward.Goals as goal

pub returns : goal.returns
unfolding path_onward
returns c =
    let a = c.args in (
      c.put.ensures.0
          ∙ ap₂ (λ p s. p ∷ s ∷ [])
          (c.step_set-p.ensures
          ∙ ap (λ w. step_set a.left.now w a.a a.r) (sym (first_read a.from.now)))
          (c.step_set-s.ensures
          ∙ ap (λ w. step_set a.right.now w a.a a.r) (sym (second_read a.from.now))),
      c.put.ensures.1,
    )

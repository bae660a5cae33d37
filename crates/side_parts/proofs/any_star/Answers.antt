-- `side_parts::any_star` meets its contract.
-- Assumes nothing.
use Rattle.side_parts.specs.Machine.{again, optional, any_star}
use mathlib.Core.Path.{◌∙◌, ap}
use borrow.Author.Rules.{rules}
use Rattle.side_parts.proofs.any_star.Goals as goal

pub returns : goal.returns
unfolding any_star
returns c = c.make_optional.ensures _ ∙ ap optional (c.repeat.ensures ∙ ap again c.add_fresh.ensures)

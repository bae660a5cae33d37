-- `graph_judge::any_loop` meets its contract: the table on top along its diagonal.
-- Assumes nothing.
use mathlib.Core.Path.{◌∙◌, ap}
use Rattle.rows.specs.Rows.{lowest_loop}
use Rattle.graph_judge.proofs.any_loop.Goals as goal

pub returns : goal.returns
returns c = c.lowest_loop.ensures ∙ ap (λ t. lowest_loop t c.args.s.events) c.load-t.ensures

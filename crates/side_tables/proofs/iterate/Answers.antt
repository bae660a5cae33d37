-- `side_tables::iterate` meets its contract.
-- Assumes nothing.
use Rattle.side_tables.specs.InPlace.{joined, iterated}
use mathlib.Core.Path.{◌∙◌, ap}
use Rattle.side_tables.proofs.iterate.Goals as goal

pub returns : goal.returns
unfolding iterated
returns c = c.join.ensures ∙ ap (λ s. joined s s c.args.table.now) c.range_set-s.ensures

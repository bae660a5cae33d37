-- `side_tables::sequence` meets its contract.
-- Assumes nothing.
use Rattle.side_tables.specs.InPlace.{joined, cut, sequenced}
use mathlib.Core.Path.{◌∙◌, ap, ap₂}
use Rattle.side_tables.proofs.sequence.Goals as goal

pub returns : goal.returns
unfolding sequenced
returns c =
    c.cut_ends.ensures ∙ ap (cut _ _ c.args.x c.args.y) c.join.ensures
    ∙ ap₂ (λ s t. cut s t c.args.x c.args.y (joined s t c.args.table.now)) c.range_set-from.ensures c.range_set-to.ensures

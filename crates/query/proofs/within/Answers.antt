-- `query::within` meets its contract: what was counted tells the limits.
-- Assumes nothing.
use mathlib.Core.Path.{◌∙◌, ap}
use Rattle.side_limits.specs.Sizes.{within_test}
use Rattle.query.proofs.within.Goals as goal

pub returns : goal.returns
returns c = c.within_limits.ensures ∙ ap within_test c.sizes-s.ensures

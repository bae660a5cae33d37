-- `sheet_alike::row_alike` meets its contract: the two steps are compared.
-- Assumes nothing.
use mathlib.Core.Path.{ap₂}
use lib.Dec.{eqb}
use Rattle.standings.specs.Alike.{row_alike}
use Rattle.sheet_alike.proofs.row_alike.Goals as goal

pub returns : goal.returns
unfolding row_alike
returns c = ap₂ eqb c.step_from.ensures c.step_from-2.ensures

-- `sheet_listed::listed` meets its contract: none is possible, or the index says.
-- Assumes nothing.
use Rattle.sheet_listed.proofs.Ways.{none_to_list, found_or_not}
use mathlib.Core.Bool.{not}
use mathlib.Core.Path.{ap}
use Rattle.sheet_listed.proofs.listed.Goals as goal

pub returns-then-not-possible : goal.returns-then-not-possible
returns-then-not-possible c = none_to_list _ _ _ _ _ _ c.possible.ensures (ap not c.if-not-possible.true)

pub returns : goal.returns
returns c = found_or_not _ _ _ _ _ _ c.possible.ensures (ap not c.if-not-possible.false) _ _ c.is_some.ensures c.find.ensures

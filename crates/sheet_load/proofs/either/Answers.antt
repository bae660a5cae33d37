-- `sheet_load::either` meets its contract.
-- Assumes nothing.
use Rattle.sheet_load.proofs.ByKind.{either_high, either_low}
use Rattle.sheet_load.proofs.either.Goals as goal

pub returns-then-high-ne0 : goal.returns-then-high-ne0
returns-then-high-ne0 c = either_high _ _ c.if-high-ne0.true

pub returns : goal.returns
returns c = either_low _ _ c.if-high-ne0.false

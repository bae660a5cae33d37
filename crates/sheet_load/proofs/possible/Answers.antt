-- `sheet_load::possible` meets its contract, by the kind of the claim.
-- Assumes nothing.
use Rattle.sheet_load.proofs.ByKind.{possible_path, possible_ring}
use Rattle.sheet_load.proofs.possible.Goals as goal

pub returns-then-ring : goal.returns-then-ring
returns-then-ring c = possible_ring _ c.if-ring.true _ _ c.either.ensures

pub returns : goal.returns
returns c = possible_path _ c.if-ring.false _ _ c.either-2.ensures

-- `side_claim::is_ring` meets its contract.
-- Assumes nothing.
use Rattle.side_claim.specs.Sides.{is_ring}
use mathlib.Core.Path.{refl}
use Rattle.side_claim.proofs.is_ring.Goals as goal

pub returns : goal.returns
unfolding is_ring
returns c = refl

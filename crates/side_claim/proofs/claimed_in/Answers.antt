-- `side_claim::claimed_in` meets its contract.
-- Assumes nothing.
use Rattle.side_claim.specs.Sides.{claimed}
use mathlib.Core.Path.{refl}
use Rattle.side_claim.proofs.claimed_in.Goals as goal

pub returns : goal.returns
unfolding claimed
returns c = rw (c.start_of-2.ensures, c.start_of.ensures, c.left_end.ensures, c.claim_kind-kind.ensures) refl

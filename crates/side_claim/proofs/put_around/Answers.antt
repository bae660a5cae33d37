-- `side_claim::put_around` meets its contract.
-- Assumes nothing.
use Rattle.side_claim.proofs.SidesInMemory.{around_made}
use Rattle.side_claim.proofs.put_around.Goals as goal

pub returns : goal.returns
returns c =
    around_made c.args.codes.now c.args.needs.now c.args.ring c.args.zero _ _ _ _ _ _ c.any_star.ensures c.inside.ensures c.put_in_order.ensures
    c.any_star-2.ensures c.put_in_order-2.ensures

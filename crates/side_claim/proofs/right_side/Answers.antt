-- `side_claim::right_side` meets its contract.
-- Assumes nothing.
use Rattle.side_claim.proofs.SidesInMemory.{right_made}
use Rattle.side_parts.proofs.MachineInMemory.{clear_made}
use Rattle.side_claim.proofs.right_side.Goals as goal

pub returns : goal.returns
returns c =
    right_made c.args.codes.now c.args.needs.now c.args.d _ _ _ _ _ _ c.is_ring-ring.ensures c.zero_for-zero.ensures.0 (clear_made _ _ c.zero_for-zero.ensures.1 c.empty.ensures) c.beside.ensures
    c.put_around.ensures (c.unite.ensures _)

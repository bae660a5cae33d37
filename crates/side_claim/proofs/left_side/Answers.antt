-- `side_claim::left_side` meets its contract.
-- Assumes nothing.
use Rattle.side_claim.proofs.SidesInMemory.{left_made}
use Rattle.side_parts.proofs.MachineInMemory.{clear_made}
use Rattle.side_claim.proofs.left_side.Goals as goal

pub returns : goal.returns
returns c = left_made c.args.codes.now c.args.needs.now c.args.d _ _ (clear_made _ _ c.requires c.empty.ensures) c.run_from.ensures

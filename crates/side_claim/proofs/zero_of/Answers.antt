-- `side_claim::zero_of` meets its contract: the machine builds nothing, so that its table stays clear.
-- Assumes nothing.
use Rattle.side_claim.proofs.SidesInMemory.{zero_found, still_clear}
use Rattle.side_parts.specs.Machine.{machine_in}
use Rattle.side_claim.proofs.zero_of.Goals as goal

pub returns : goal.returns
unfolding machine_in
returns c =
    let s = c in
    let f = c.full.ensures in
    let r = c.run_union.ensures in (
      zero_found s.args.codes.now s.args.needs.now _ _ s.requires f.0 f.1 r _ c.top-a.ensures.0,
      still_clear s.args.codes.now s.args.needs.now _ _ s.requires f.0 f.1 r,
    )

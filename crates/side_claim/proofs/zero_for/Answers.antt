-- `side_claim::zero_for` meets its contract.
-- Assumes nothing.
use Rattle.side_claim.proofs.SidesInMemory.{zero_none, zero_ring, zero_path}
use mathlib.Core.Bool.{not}
use mathlib.Core.Path.{ap}
use Rattle.side_claim.proofs.zero_for.Goals as goal

pub returns-then-ring : goal.returns-then-ring
returns-then-ring c = (zero_ring c.args.codes.now c.args.needs.now c.args.ring c.if-ring.true, c.requires)

pub returns-then-not-among : goal.returns-then-not-among
returns-then-not-among c = (zero_none c.args.codes.now c.args.needs.now c.args.ring _ c.among.ensures (ap not c.if-not-among.true), c.requires)

pub returns : goal.returns
returns c = (zero_path c.args.codes.now c.args.needs.now c.args.ring _ c.if-ring.false c.zero_of.ensures.0, c.zero_of.ensures.1)

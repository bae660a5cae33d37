-- `side_claim::inside` meets its contract: a path claim, a ring claim.
-- Assumes nothing.
use Rattle.side_claim.proofs.SidesInMemory.{inside_path, inside_ring}
use mathlib.Core.Bool.{not}
use mathlib.Core.Path.{ap}
use Rattle.side_claim.proofs.inside.Goals as goal

pub returns-then-not-ring : goal.returns-then-not-ring
returns-then-not-ring c = inside_path c.args.codes.now c.args.needs.now c.args.ring c.args.zero _ _ _ _ (ap not c.if-not-ring.true) c.run_union.ensures (c.give.ensures _) (c.unite.ensures _)

pub returns-else-not-ring : goal.returns-else-not-ring
returns-else-not-ring c = inside_ring c.args.codes.now c.args.needs.now c.args.ring c.args.zero _ _ (ap not c.if-not-ring.false) c.run_union.ensures

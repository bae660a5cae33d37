-- `sheet_kinds::completes` meets its contract, by the kind of the claim.
-- Assumes nothing.
use Rattle.sheet_load.proofs.ByKind.{small_path, small_ring, completes_path, completes_ring}
use Rattle.sheet_kinds.proofs.completes.Goals as goal

pub completes-requires : goal.completes-requires
completes-requires c = small_ring _ c.if-ring.true _ c.all-1.given c.requires

pub returns-then-ring : goal.returns-then-ring
returns-then-ring c = completes_ring _ _ _ _ _ c.if-ring.true _ _ c.all-1.given c.completes.ensures

pub completes-requires-2 : goal.completes-requires-2
completes-requires-2 c = small_path _ c.if-ring.false _ c.requires

pub returns : goal.returns
returns c = completes_path _ _ _ _ _ c.if-ring.false _ _ c.completes-2.ensures

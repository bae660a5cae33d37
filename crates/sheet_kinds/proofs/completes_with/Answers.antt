-- `sheet_kinds::completes_with` meets its contract, by the kind of the claim.
-- Assumes nothing.
use Rattle.sheet_load.proofs.ByKind.{small_path, small_ring, with_path, with_ring}
use Rattle.sheet_kinds.proofs.completes_with.Goals as goal

pub completes_with-requires : goal.completes_with-requires
completes_with-requires c = small_ring _ c.if-ring.true _ c.all-1.given c.requires

pub returns-then-ring : goal.returns-then-ring
returns-then-ring c = with_ring _ _ _ _ _ c.if-ring.true _ _ _ c.all-1.given c.completes_with.ensures

pub completes_with-requires-2 : goal.completes_with-requires-2
completes_with-requires-2 c = small_path _ c.if-ring.false _ c.requires

pub returns : goal.returns
returns c = with_path _ _ _ _ _ c.if-ring.false _ _ _ c.completes_with-2.ensures

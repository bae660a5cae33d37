-- `sheet_kinds::onward` meets its contract, by the kind of the claim.
-- Assumes nothing.
use Rattle.sheet_load.proofs.ByKind.{onward_path, onward_ring, small_path, small_ring, path_small, ring_small, ring_grown_length}
use Rattle.sheet_kinds.proofs.onward.Goals as goal

pub onward-requires : goal.onward-requires
onward-requires c = small_ring _ c.if-ring.true _ c.all-1.given c.requires

pub returns-then-ring : goal.returns-then-ring
returns-then-ring c =
    let e = c.if-ring.true in
    let l = ring_grown_length _ _ _ _ _ c.onward.ensures.0 in
    record { grown = onward_ring _ _ _ e _ _ _ l c.all-1.given c.onward.ensures.0; small = ring_small _ e _ l c.onward.ensures.1 }

pub onward-requires-2 : goal.onward-requires-2
onward-requires-2 c = small_path _ c.if-ring.false _ c.requires

pub returns : goal.returns
returns c =
    let e = c.if-ring.false in
    record { grown = onward_path _ _ _ e _ _ _ c.onward-2.ensures.0; small = path_small _ e _ c.onward-2.ensures.2 }

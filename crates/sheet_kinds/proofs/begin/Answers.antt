-- `sheet_kinds::begin` meets its contract, by the kind of the claim.
-- Assumes nothing.
use Rattle.sheet_load.proofs.ByKind.{begin_path, begin_ring, path_small, ring_small, ring_begun_length}
use borrow.Author.Rules.{rules}
use Rattle.sheet_kinds.proofs.begin.Goals as goal

pub returns-then-ring : goal.returns-then-ring
returns-then-ring c =
    let e = c.if-ring.true in
    let l = ring_begun_length _ _ _ _ c.begin.ensures.0 in
    record { begun = begin_ring _ _ _ e _ _ l c.begin.ensures.0; small = ring_small _ e _ l c.begin.ensures.1 }

pub returns : goal.returns
returns c =
    let e = c.if-ring.false in
    record { begun = begin_path _ _ _ e _ _ c.begin-2.ensures.0; small = path_small _ e _ c.begin-2.ensures.2 }

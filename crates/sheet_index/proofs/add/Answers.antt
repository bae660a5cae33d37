-- `sheet_index::add` meets its contract: the slot's head goes behind the new standing, which becomes the head.
-- Assumes nothing.
use Rattle.sheet_index.proofs.Kept.{indexed_more}
use Rattle.sheet_index.proofs.Listed.{cells_listed_lem}
use Rattle.sheet_index.specs.Index.{slot_of}
use mathlib.Core.Path.{◌∙◌, ap}
use native.Mathlib.Omega.{arith}
use Rattle.sheet_index.proofs.add.Goals as goal

pub returns : goal.returns
returns c =
    let p = c.requires in
    indexed_more _ _ _ _ p.0 _ _ p.1
    (c.slot_at-slot.ensures.0
    ∙ ap slot_of (cells_listed_lem _ _ _ _ _ _ c.begin-from.ensures.0 c.count-k.ensures.0))
    c.slot_at-slot.ensures.1 (omega arith)

-- Path and ring claims together: cells show the standings of a claim, and the contents of a standing's field are read as the cells that stand
-- there. (Document 01, "Standings" and "Sheet and graph bytes".)
-- Assumes nothing.
use Prim.Native.Nat.{ℕ, ◌+◌, ◌≤◌}
use native.Mathlib.Omega.{arith}
use mathlib.Core.Path.{◌≡◌, refl, ◌∙◌, ap}
use mathlib.Core.Bool.{Bool, true, false}
use mathlib.Core.List.{List}
use lib.ListN.{length, get_or, take, drop}
use Rattle.kat.specs.Tables.{occurrences}
use Rattle.claims.specs.Fields.{provided}
use Rattle.claims.specs.SheetBytes.{contents_length}
use Rattle.claims.specs.SheetReading.{standing_of}
use Rattle.claims.specs.SheetWriting.{AllBytes, RisingWithin}
use Rattle.claims.specs.Sides.{Decision}
use Rattle.claims.specs.Standings.{system_of, claim_system}
use Rattle.claims.specs.Width.{width, row_length}
use Rattle.side_tables.specs.SideTable.{side_table}
use Rattle.standings.proofs.LettersOf.{LettersOf}
use Rattle.standings.proofs.Shows.{Shows}
use Rattle.sheet_standings.specs.Layout.{standing_cells}
use Rattle.sheet_standings.specs.CellSystem.{cells_fit, cells_show, cell_system}
use Rattle.sheet_standings.specs.Good.{GoodCells}
use Rattle.sheet_standings.proofs.CellBytes.{byte_small}
use Rattle.sheet_standings.proofs.FieldCells.{FieldAt}
use Rattle.sheet_standings.proofs.PathShown.{path_cells_show}
use Rattle.sheet_standings.proofs.PathRead.{path_cells_good, path_contents_read}
use Rattle.sheet_standings.proofs.RingShown.{ring_cells_show}
use Rattle.sheet_standings.proofs.RingRead.{ring_cells_good, ring_contents_read}

-- the cells of a claim show its standings ("Standings")
module _ {live relations : ℕ} {D : Decision} (h : LettersOf live relations D) (few_atoms : D.atoms ≤ 64)
    (live_within : RisingWithin 0 D.atoms D.live) (few_left : occurrences D.left ≤ 64) (few_right : occurrences D.right ≤ 64)
    (few_right_of_rings : D.ring ≡ true → occurrences D.right ≤ 31) (n : ℕ) (size : n ≡ occurrences D.right) where
  by_kind : (ring : Bool) → D.ring ≡ ring
      → Shows (system_of ring D) (cell_system ring n live relations (side_table D.left) (side_table D.right)) (cells_show ring D)
      (GoodCells ring D)
  by_kind false e = path_cells_show n h few_left few_right
  by_kind true e = ring_cells_show h few_atoms live_within few_left (few_right_of_rings e) n size

  pub cells_show_lem : Shows (claim_system D) (cell_system D.ring n live relations (side_table D.left) (side_table D.right))
      (cells_show D.ring D) (GoodCells D.ring D)
  cells_show_lem = by_kind D.ring refl

-- a field at place at, with as many bytes of contents as a standing of the kind has
module _ (D : Decision) (bs : List ℕ) (at : ℕ) (contents rest : List ℕ) (all : AllBytes bs) (field : FieldAt bs at contents rest) where
  -- the two bytes of its length
  length_high : length contents ≡ 266 → get_or bs (at + 1) 0 ≡ 1
  length_high e = omega (arith, field.says, e, byte_small bs all (at + 2))

  length_low : length contents ≡ 266 → get_or bs (at + 2) 0 ≡ 10
  length_low e = omega (arith, field.says, e, byte_small bs all (at + 2))

  -- the contents are a standing where the cells fit, the one that they show ("Sheet and graph bytes")
  pub contents_read : (ring : Bool) → length contents ≡ contents_length ring
      → standing_of ring D contents
      ≡ provided (cells_fit ring D.atoms (occurrences D.left) (occurrences D.right) (standing_cells ring bs at))
      (cells_show ring D (standing_cells ring bs at))
  unfolding contents_length width row_length
  contents_read false e =
      ap (standing_of false D) (field.part ∙ ap (λ k. take k (drop (at + 3) bs)) e)
      ∙ path_contents_read bs at (omega (arith, field.room, e)) D
  contents_read true e =
      ap (standing_of true D) (field.part ∙ ap (λ k. take k (drop (at + 3) bs)) e)
      ∙ ring_contents_read bs at all (omega (arith, field.room, e)) (length_high e) (length_low e) D

  -- cells that fit are good ("Sheet and graph bytes")
  pub cells_good : (ring : Bool) → length contents ≡ contents_length ring
      → cells_fit ring D.atoms (occurrences D.left) (occurrences D.right) (standing_cells ring bs at) ≡ true
      → GoodCells ring D (standing_cells ring bs at)
  unfolding contents_length width row_length
  cells_good false e f = path_cells_good bs at D all f
  cells_good true e f = ring_cells_good bs at all (omega (arith, field.room, e)) (length_high e) (length_low e) D f

-- From the bytes of a path standing's field to its cells: the contents are a standing exactly where the cells fit, namely the one that they
-- show; cells that fit are good. (Document 01, "Sheet and graph bytes".)
-- Assumes nothing.
use Prim.Native.Nat.{ℕ, suc, ◌+◌, ◌*◌, ◌^◌, ◌≤◌, ◌<◌}
use native.Mathlib.Omega.{arith}
use mathlib.Core.Path.{◌≡◌, sym, ◌∙◌, ap, ap₂}
use mathlib.Core.Bool.{true, false, ◌&&◌}
use mathlib.Core.List.{List}
use mathlib.Core.Option.{Option}
use lib.Dec.{eqb, ltb}
use lib.ListN.{length, get_or, take, drop}
use lib.Seq.{take-take, drop-drop, take-add, drop_at}
use Rattle.kat.specs.Tables.{occurrences}
use Rattle.claims.specs.Sides.{Decision}
use Rattle.claims.specs.Standings.{Path}
use Rattle.claims.specs.Fields.{provided, from_bytes, number_set}
use Rattle.claims.specs.SheetBytes.{contents_length}
use Rattle.claims.specs.SheetReading.{set_of, set_fits, path_of}
use Rattle.claims.specs.SheetWriting.{AllBytes}
use Rattle.fields.specs.Places.{cell_at}
use Rattle.sheet_standings.specs.Layout.{cell_count, cell_start, standing_cells, wide}
use Rattle.sheet_standings.specs.PathCells.{path_fits, path_shown}
use Rattle.sheet_standings.specs.CellSystem.{cells_fit}
use Rattle.sheet_standings.specs.Good.{GoodCells}
use Rattle.sheet_standings.proofs.CellBytes.{part_length, two_cells, cells_length, cells_at_lem, cells_small}
use Rattle.sheet_standings.proofs.PathShown.{good_path}

module _ (bs : List ℕ) (at : ℕ) where
  -- how many cells there are, and how large
  path_count : length (standing_cells false bs at) ≡ 4
  unfolding standing_cells cell_count
  path_count = cells_length bs (at + cell_start false) 4

  path_limit : AllBytes bs → (i : ℕ) → get_or (standing_cells false bs at) i 0 < 2 ^ 32
  unfolding standing_cells
  path_limit b = cells_small bs (at + cell_start false) (cell_count false) b

  -- a word of the cells is the number of 8 bytes
  path_word : (i j : ℕ) → i + 1 < 4 → j ≡ at + cell_start false + 4 * i → j + 8 ≤ length bs
      → wide (standing_cells false bs at) i ≡ from_bytes 0 (take 8 (drop j bs))
  unfolding standing_cells cell_count wide
  path_word i j h e k =
      ap₂ (λ c d. c * 2 ^ 32 + d) (cells_at_lem bs (at + cell_start false) 4 i (omega arith) ∙ ap (cell_at bs) (sym e))
      (cells_at_lem bs (at + cell_start false) 4 (suc i) (omega arith) ∙ ap (cell_at bs) (omega arith)) ∙ sym (two_cells bs j k)

  -- the cells that fit are good ("Sheet and graph bytes")
  pub path_cells_good : (D : Decision) → AllBytes bs
      → cells_fit false D.atoms (occurrences D.left) (occurrences D.right) (standing_cells false bs at) ≡ true
      → GoodCells false D (standing_cells false bs at)
  path_cells_good D b e = good_path D (standing_cells false bs at) path_count (path_limit b) e

  module _ (room : at + 19 ≤ length bs) where
    -- the two sets of the contents
    P-read : from_bytes 0 (take 8 (take 16 (drop (at + 3) bs))) ≡ wide (standing_cells false bs at) 0
    unfolding cell_start
    P-read =
        ap (from_bytes 0) (take-take 8 16 (drop (at + 3) bs) (omega arith))
        ∙ sym (path_word 0 (at + 3) (omega arith) (omega arith) (omega arith))

    S-read : from_bytes 0 (drop 8 (take 16 (drop (at + 3) bs))) ≡ wide (standing_cells false bs at) 2
    unfolding cell_start
    S-read =
        ap (from_bytes 0)
        (ap (drop 8) (take-add 8 8 (drop (at + 3) bs))
        ∙ drop_at (take 8 (drop (at + 3) bs)) (take 8 (drop 8 (drop (at + 3) bs))) 8 (part_length 8 (at + 3) bs (omega arith))
        ∙ ap (take 8) (drop-drop 8 (at + 3) bs))
        ∙ sym (path_word 2 (at + 3 + 8) (omega arith) (omega arith) (omega arith))

    -- the contents are a standing where the cells fit, the one that they show ("Sheet and graph bytes")
    pub path_contents_read : (D : Decision)
        → path_of D (take 16 (drop (at + 3) bs))
        ≡ provided (cells_fit false D.atoms (occurrences D.left) (occurrences D.right) (standing_cells false bs at))
        (path_shown D (standing_cells false bs at))
    unfolding path_of contents_length set_fits set_of cells_fit path_fits
    path_contents_read D =
        ap₂ (λ p q. set_by (length (take 16 (drop (at + 3) bs))) p q) P-read S-read
        ∙ ap (λ n. set_by n (wide (standing_cells false bs at) 0) (wide (standing_cells false bs at) 2))
        (part_length 16 (at + 3) bs (omega arith))
      where
        set_by : ℕ → ℕ → ℕ → Option Path
        set_by n p q =
            provided (eqb n 16 && ltb p (2 ^ occurrences D.left) && ltb q (2 ^ occurrences D.right))
            (record { P = number_set 1 (suc (occurrences D.left)) p; S = number_set 1 (suc (occurrences D.right)) q })

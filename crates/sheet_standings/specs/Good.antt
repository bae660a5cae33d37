-- Cells that are a standing which a sheet may list: as many as the kind has, each of four bytes, and nothing in them too large. (Document 01,
-- "Sheet and graph bytes".)
-- Assumes nothing.
use Rattle.std.specs.Prelude.{ℕ, ◌<◌, ◌≡◌, Bool, true, List, length, get_or}
use Rattle.kat.specs.Tables.{occurrences}
use Rattle.claims.specs.Sides.{Decision}
use Rattle.sheet_standings.specs.Layout.{cell_count, CELL}
use Rattle.sheet_standings.specs.RingCells.{head_cell, first_in, flag_in}
use Rattle.sheet_standings.specs.CellSystem.{cells_fit}

-- the cells are a standing that a sheet may list ("Sheet and graph bytes")
pub record GoodCells (ring : Bool) (D : Decision) (s : List ℕ) : Type 0 where
  pub size : length s ≡ cell_count ring
  pub small : (i : ℕ) → get_or s i 0 < CELL
  pub head : ring ≡ true → get_or s 0 0 ≡ head_cell (first_in s) (flag_in s)
  pub fits : cells_fit ring D.atoms (occurrences D.left) (occurrences D.right) s ≡ true

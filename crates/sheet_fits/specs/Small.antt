-- Cells of four bytes: the first n words of a memory, each below CELL. (Document 01, "Sheet and graph bytes".)
-- Assumes nothing.
use Rattle.std.specs.Prelude.{ℕ, ◌<◌, ◌≡◌, List, length, get_or, take}
use Rattle.sheet_standings.specs.Layout.{CELL}

-- n cells stand at the start ("Sheet and graph bytes")
pub record SmallCells (n : ℕ) (s : List ℕ) : Type 0 where
  pub size : length (take n s) ≡ n
  pub small : (i : ℕ) → get_or (take n s) i 0 < CELL

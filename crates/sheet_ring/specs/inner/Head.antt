-- The three cells before the rows of a ring standing. (Document 01, "Sheet and graph bytes".)
-- Assumes nothing.
use Rattle.std.specs.Prelude.{ℕ, ◌/◌, ◌%◌, List, set}
use Rattle.sheet_standings.specs.Layout.{CELL}

-- the head of a standing and P in their places
unfoldable pub headed : List ℕ → ℕ → ℕ → List ℕ
headed to head p = set (set (set to 0 head) 1 (p / CELL)) 2 (p % CELL)

-- `sheet_index::find` meets its contract. The invariant: the place is in the slot of the cells, and up to it the last
-- standing that has them is that of all.
-- Assumes nothing.
use Rattle.sheet_index.proofs.Kept.{Followed}
use Rattle.sheet_standings.specs.Layout.{cell_count, listed_cells}
use lib.ListN.{take}
use Rattle.sheet_index.proofs.find.Given as goal

abbrev pub invariant-loop-place : goal.invariant-loop-place
invariant-loop-place l = Followed (listed_cells l.ring l.sheet l.base) l.n (take (cell_count l.ring) l.cells) l.place

abbrev pub decreases-loop-place : goal.decreases-loop-place
decreases-loop-place l = l.place

-- Whether the standings listed in a part of a sheet prove, as the sheet check runs it: on cells, over the letters that the masks let it
-- try. (Document 01, "Sheet and graph bytes".) `proofs/Passes.antt` shows that they prove exactly where the standings that they show pass.
-- Assumes nothing.
use Rattle.std.specs.Prelude.{ℕ, Bool, ◌||◌, List}
use Rattle.claims.specs.Standings.{System, Letter}
use Rattle.claims.specs.Thin.{thin_proving}
use Rattle.query.specs.declared.Facts.{Facts}
use Rattle.sheet_standings.specs.CellSystem.{cell_system}
use Rattle.sheet_alike.specs.Masks.{masks_of, tried}

-- by the facts of the query and the tables of the two sides
module _ (f : Facts) (left right : List ℕ) where
  -- the kind of standing on cells ("Standings")
  abbrev pub cells_of : System
  cells_of = cell_system f.ring f.right f.live f.relations left right

  -- the letters tried at level 1: in a ring claim all of them ("Standings")
  unfoldable pub first_tried : Letter → Bool
  first_tried l = f.ring || tried (masks_of f left right) l

  -- the letters tried after a listed standing ("Standings")
  unfoldable pub later_tried : Letter → Bool
  later_tried l = tried (masks_of f left right) l

  -- the standings listed prove: no length-0 word refutes, level 1 and every step from one of them is listed, none completes ("Sheet and
  -- graph bytes")
  unfoldable pub proves_cells : List (List ℕ) → Bool
  proves_cells css = thin_proving cells_of first_tried later_tried css

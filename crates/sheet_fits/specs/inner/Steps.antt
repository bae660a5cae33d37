-- A verdict, and whether the field at a place is that of a standing which may be listed next. (Document 01, "Sheet and graph bytes".)
-- Assumes nothing.
use Rattle.std.specs.Prelude.{ℕ, Bool, cond, false, ◌&&◌, Option, Some, None, List, [], ◌∷◌, eqb, length, drop}
use Rattle.claims.specs.Bytes.{same}
use Rattle.claims.specs.Fields.{Field, whole, cut, next_field}
use Rattle.claims.specs.SheetBytes.{contents_length}
use Rattle.sheet_standings.specs.Layout.{standing_cells, listed_cells}
use Rattle.sheet_standings.specs.CellSystem.{cells_fit}
use Rattle.sheet_index.specs.Index.{last_where}
use Rattle.sheet_fits.specs.declared.Verdict.{Verdict}
use Rattle.sheet_fits.specs.declared.Verdict.TheVariants.{Proved, Refuted}

-- the verdict that contents are: 1 proved, 2 refuted ("Sheet and graph bytes")
unfoldable pub verdict_of : List ℕ → Option Verdict
verdict_of contents = cond (same contents (1 ∷ [])) (Some Proved) (cond (same contents (2 ∷ [])) (Some Refuted) None)

-- a whole field as long as a standing's ("Sheet and graph bytes")
unfoldable pub sized : Bool → Field → Bool
sized ring cut = false
sized ring (whole tag contents rest) = eqb (length contents) (contents_length ring)

-- the field at place at is as long as a standing's, nothing in it is too large, and it is none of the n before it ("Sheet and graph bytes")
unfoldable pub may_list : Bool → ℕ → ℕ → ℕ → List ℕ → ℕ → ℕ → ℕ → Bool
may_list ring atoms l r bs base n at =
    sized ring (next_field (drop at bs))
    && cells_fit ring atoms l r (standing_cells ring bs at)
    && eqb (last_where (λ i. same (listed_cells ring bs base i) (standing_cells ring bs at)) n) 0

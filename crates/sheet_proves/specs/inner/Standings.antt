-- What the functions of this crate promise each other: what a listed standing has to pass, in the order in which the code tests it.
-- Assumes nothing.
use Rattle.std.specs.Prelude.{ℕ, Bool, true, false, ◌&&◌, List, []}
use Rattle.kat.specs.Lists.{upto, every, is_empty}
use Rattle.standings.specs.Steps.{alone_words}
use Rattle.query.specs.declared.Facts.{Facts}
use Rattle.sheet_standings.specs.Layout.{listed_cells}
use Rattle.sheet_standings.specs.CellSystem.{finals_cells}
use Rattle.sheet_alike.specs.Masks.{masks_of}
use Rattle.sheet_listed.specs.Listed.{letters_listed, part_cells}

module _ (f : Facts) (left right : List ℕ) where
  module _ (css : List (List ℕ)) (masks : List ℕ) where
    -- a listed standing completes nothing, and every letter that is tried leads to one that is listed
    unfoldable pub standing_passes : List ℕ → Bool
    standing_passes s =
        is_empty (finals_cells f.ring f.right f.live 0 left right s) && letters_listed f left right css false s masks

  module _ (bs : List ℕ) (base n : ℕ) (masks : List ℕ) where
    -- so for standing i of a part
    unfoldable pub place_passes : ℕ → Bool
    place_passes i = standing_passes (part_cells f.ring bs base n) masks (listed_cells f.ring bs base i)

    -- so for each
    unfoldable pub places_pass : Bool
    places_pass = every place_passes (upto 0 n)

  -- the standings of a part prove, in the order of the code
  unfoldable pub part_proves : List ℕ → ℕ → ℕ → Bool
  part_proves bs base n =
      is_empty (alone_words left right f.live)
      && letters_listed f left right (part_cells f.ring bs base n) true [] (masks_of f left right)
      && places_pass bs base n (masks_of f left right)

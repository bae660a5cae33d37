-- The masks of the letters to try, by the tables of the two sides: for each relation the set of the live atoms such that no lower live
-- atom is alike before it. (Document 01, "Standings".) The tests stand in the order in which the code makes them. `proofs/` shows that a mask
-- holds the atoms that `claims` keeps, so that the search tries the letters that `claims` lets it try.
-- Assumes nothing.
use Rattle.std.specs.Prelude.{ℕ, Bool, cond, List, ltb}
use Rattle.memory.specs.Memory.{words}
use Rattle.bits.specs.Sets.{members}
use Rattle.search_standings.specs.declared.Shape.{Shape}
use Rattle.standings.specs.Alike.{gathered, alike_at, no_lower}

-- n left occurrences, and the tables of the two sides ("Standings")
module _ (k : Shape) (n : ℕ) (left right : List ℕ) where
  -- atoms a and b are alike before r; in a ring claim also the right words that end there are ("Standings")
  unfoldable pub alike_words : ℕ → ℕ → ℕ → Bool
  alike_words = alike_at k.ring n k.right left right

  -- no live atom below a is alike before r ("Standings")
  unfoldable pub lowest_words : ℕ → ℕ → Bool
  lowest_words r = no_lower (alike_words r) k.live

  -- the live atoms to try before r ("Standings")
  unfoldable pub mask_of : ℕ → ℕ
  mask_of r = gathered (lowest_words r) (members k.live) 0

  -- the mask of relation r, which is empty where there is no such relation ("Standings")
  unfoldable pub mask_at : ℕ → ℕ
  mask_at r = cond (ltb r k.relations) (mask_of r) 0

  -- the masks of all relations ("Standings")
  unfoldable pub masks_of : List ℕ
  masks_of = words 16 mask_at

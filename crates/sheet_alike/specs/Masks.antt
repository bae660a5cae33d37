-- The masks of the letters to try, by the tables of the two sides: for each relation the set of the live atoms such that no lower live
-- atom is alike before it. (Document 01, "Standings".) The tests stand in the order in which the code makes them. `proofs/` shows that a mask
-- holds the atoms that `claims` keeps, so that the check tries the letters that `claims` lets it try.
-- Assumes nothing.
use Rattle.std.specs.Prelude.{ℕ, Bool, cond, List, ltb, get_or}
use Rattle.claims.specs.Query.{bit}
use Rattle.claims.specs.Standings.{Letter}
use Rattle.codes.specs.Codes.{MOST-RELATIONS}
use Rattle.memory.specs.Memory.{words}
use Rattle.bits.specs.Sets.{members}
use Rattle.query.specs.declared.Facts.{Facts}
use Rattle.standings.specs.Alike.{gathered, alike_at, no_lower}

-- by the facts of the query and the tables of the two sides ("Standings")
module _ (f : Facts) (left right : List ℕ) where
  -- atoms a and b are alike before r; in a ring claim also the right words that end there are ("Standings")
  unfoldable pub alike_words : ℕ → ℕ → ℕ → Bool
  alike_words = alike_at f.ring f.left f.right left right

  -- no live atom below a is alike before r ("Standings")
  unfoldable pub lowest_words : ℕ → ℕ → Bool
  lowest_words r = no_lower (alike_words r) f.live

  -- the live atoms to try before r ("Standings")
  unfoldable pub mask_of : ℕ → ℕ
  mask_of r = gathered (lowest_words r) (members f.live) 0

  -- the mask of relation r, which is empty where there is no such relation ("Standings")
  unfoldable pub mask_at : ℕ → ℕ
  mask_at r = cond (ltb r f.relations) (mask_of r) 0

  -- the masks of all relations ("Standings")
  unfoldable pub masks_of : List ℕ
  masks_of = words MOST-RELATIONS mask_at

-- the letter's atom is in the mask of its relation ("Standings")
unfoldable pub tried : List ℕ → Letter → Bool
tried masks l = bit l.atom (get_or masks l.relation 0)

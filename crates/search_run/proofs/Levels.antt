-- What the levels find over the letters that are tried.
-- Assumes nothing.
use Prim.Native.Nat.{ℕ, suc}
use mathlib.Core.Path.{◌≡◌, ap, subst}
use mathlib.Core.List.{List}
use Rattle.claims.specs.Standings.{Letter}
use Rattle.query.specs.declared.Facts.{Facts}
use Rattle.search_alike.specs.Masks.{masks_of}
use Rattle.search_grow.specs.Masks.{letters_in}
use Rattle.search_course.specs.declared.Finding.{Finding as Found}
use Rattle.search_course.specs.Answers.{Answered}
use Rattle.search_shape.specs.inner.Tried.{shape_of, first_masks, first_letters, later_letters}

module _ (f : Facts) (left right first later : List ℕ) (cap : ℕ) (r : List (List ℕ)) (w : List ℕ) (x : Found)
    (is_first : first ≡ first_masks f left right) (is_later : later ≡ masks_of (shape_of f) f.left left right) where
  -- what the search finds over lists of letters
  abbrev Finds : List Letter → List Letter → Type 0
  Finds ls ms = Answered (shape_of f) left right ls ms (suc (suc cap)) cap r w x

  first_is : letters_in first f.live f.relations ≡ first_letters f left right
  unfolding first_letters
  first_is = ap (λ m. letters_in m f.live f.relations) is_first

  later_is : letters_in later f.live f.relations ≡ later_letters f left right
  unfolding later_letters
  later_is = ap (λ m. letters_in m f.live f.relations) is_later

  pub finds : Finds (letters_in first f.live f.relations) (letters_in later f.live f.relations)
      → Finds (first_letters f left right) (later_letters f left right)
  finds answered =
      subst (λ ls. Finds ls (later_letters f left right)) first_is
      (subst (Finds (letters_in first f.live f.relations)) later_is answered)

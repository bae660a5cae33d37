-- The masks and the letters of level 1, by the claim's kind.
-- Assumes nothing.
use Prim.Native.Nat.{ℕ}
use mathlib.Core.Path.{◌≡◌, refl, ap}
use mathlib.Core.Bool.{true, false}
use mathlib.Core.List.{List}
use Rattle.memory.specs.Memory.{words}
use Rattle.query.specs.declared.Facts.{Facts}
use Rattle.search_alike.specs.Masks.{masks_of}
use Rattle.search_grow.specs.Masks.{letters_in}
use Rattle.search_shape.specs.inner.Tried.{shape_of, first_masks, first_letters, later_letters}

module _ (f : Facts) (left right : List ℕ) where
  -- the masks
  pub path_masks : f.ring ≡ false → masks_of (shape_of f) f.left left right ≡ first_masks f left right
  unfolding first_masks
  path_masks path = rw path refl

  pub ring_masks : f.ring ≡ true → words 16 (λ r. f.live) ≡ first_masks f left right
  unfolding first_masks
  ring_masks ring = rw ring refl

  -- those of the later levels
  pub path_first : f.ring ≡ false → first_letters f left right ≡ later_letters f left right
  unfolding first_letters later_letters first_masks
  path_first path =
      ap (λ b. letters_in (elim b [ false ↦ masks_of (shape_of f) f.left left right | true ↦ words 16 (λ r. f.live) ]) f.live f.relations) path

  -- all
  pub ring_first : f.ring ≡ true → first_letters f left right ≡ letters_in (words 16 (λ r. f.live)) f.live f.relations
  unfolding first_letters first_masks
  ring_first ring =
      ap (λ b. letters_in (elim b [ false ↦ masks_of (shape_of f) f.left left right | true ↦ words 16 (λ r. f.live) ]) f.live f.relations) ring

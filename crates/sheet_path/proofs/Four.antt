-- The first four of a list of cells: written, they stand in front of what stood behind them; read; and below 2 ^ 32 where they are the
-- halves of two words.
-- Assumes nothing.
use Prim.Native.Nat.{ℕ, zero, suc, ◌+◌, ◌*◌, ◌^◌, ◌/◌, ◌%◌, ◌≤◌, ◌<◌}
use native.Mathlib.Omega.{arith}
use mathlib.Core.Path.{◌≡◌, refl, sym, ap₂, subst}
use mathlib.Core.List.{List, [], ◌∷◌}
use lib.ListN.{length, get_or, take, drop, set}
use lib.Seq.{get_or-take}
use Rattle.sheet_standings.specs.Layout.{halves, wide}
use Rattle.sheet_standings.specs.PathCells.{path_cells}

four_written : (l : List ℕ) (a b c d : ℕ) → 4 ≤ length l
    → (take 4 (set (set (set (set l 0 a) 1 b) 2 c) 3 d) ≡ a ∷ b ∷ c ∷ d ∷ []) × (drop 4 (set (set (set (set l 0 a) 1 b) 2 c) 3 d) ≡ drop 4 l)
four_written [] a b c d h = absurd (omega arith)
four_written (x ∷ []) a b c d h = absurd (omega arith)
four_written (x ∷ y ∷ []) a b c d h = absurd (omega arith)
four_written (x ∷ y ∷ z ∷ []) a b c d h = absurd (omega arith)
four_written (x ∷ y ∷ z ∷ w ∷ l) a b c d h = (refl, refl)

-- the halves of two words are small
cells_small : (p s : ℕ) → p < 2 ^ 64 → s < 2 ^ 64 → (i : ℕ) → get_or (path_cells p s) i 0 < 2 ^ 32
unfolding path_cells halves
cells_small p s h k zero = omega arith
cells_small p s h k (suc zero) = omega arith
cells_small p s h k (suc (suc zero)) = omega arith
cells_small p s h k (suc (suc (suc zero))) = omega arith
cells_small p s h k (suc (suc (suc (suc i)))) = omega arith

pub standing_written : (l : List ℕ) (p s : ℕ) → 4 ≤ length l → p < 2 ^ 64 → s < 2 ^ 64
    → let m = set (set (set (set l 0 (p / 2 ^ 32)) 1 (p % 2 ^ 32)) 2 (s / 2 ^ 32)) 3 (s % 2 ^ 32) in
    (take 4 m ≡ path_cells p s) × (drop 4 m ≡ drop 4 l) × ((i : ℕ) → get_or (take 4 m) i 0 < 2 ^ 32)
unfolding path_cells halves
standing_written l p s h x y =
    let (f, g) = four_written l (p / 2 ^ 32) (p % 2 ^ 32) (s / 2 ^ 32) (s % 2 ^ 32) h in (
      f,
      g,
      λ i. subst (λ c. get_or c i 0 < 2 ^ 32) (sym f) (cells_small p s x y i),
    )

module _ (l : List ℕ) where
  -- a cell of the standing
  pub cell_small : ((i : ℕ) → get_or (take 4 l) i 0 < 2 ^ 32) → (i : ℕ) → i < 4 → get_or l i 0 < 2 ^ 32
  cell_small h i k = subst (λ w. w < 2 ^ 32) (get_or-take 4 l i 0 k) (h i)

  -- two cells of the standing as one word
  pub wide_read : (i : ℕ) → suc i < 4 → get_or l i 0 * 2 ^ 32 + get_or l (suc i) 0 ≡ wide (take 4 l) i
  unfolding wide
  wide_read i h =
      sym (ap₂ (λ x y. x * 2 ^ 32 + y) (get_or-take 4 l i 0 (omega arith)) (get_or-take 4 l (suc i) 0 h))

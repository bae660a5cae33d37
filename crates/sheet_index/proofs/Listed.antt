-- The cells of a standing where they lie in the sheet: read one by one for its slot and to compare them; and where they begin, by the kind
-- of the claim.
-- Assumes nothing.
use Prim.Native.Nat.{ℕ, suc, ◌+◌, ◌*◌, ◌≤◌, ◌<◌}
use native.Mathlib.Omega.{arith}
use mathlib.Core.Path.{◌≡◌, refl, sym, ◌∙◌, ap, ap₂}
use mathlib.Core.Bool.{Bool, true, false}
use mathlib.Core.List.{List}
use lib.ListN.{length, get_or, take, drop}
use Rattle.kat.proofs.Bools.{true_not_false}
use Rattle.claims.specs.Bytes.{same}
use Rattle.fields.specs.Places.{cell_at, cells_at}
use Rattle.fields.proofs.Cells.{cells_length, cells_at_lem}
use Rattle.sheet_standings.specs.Layout.{cell_count, field_length, cell_start, standing_cells, listed_cells}
use Rattle.sheet_index.specs.Index.{mixed, hash_from}
use Rattle.sheet_index.proofs.Hashes.{hash_more, same_all, same_not}

module _ (bs : List ℕ) (from n : ℕ) where
  -- the cell at a place
  cell_here : (j v : ℕ) → j < n → v ≡ cell_at bs (from + 4 * j) → v ≡ get_or (cells_at bs from n) j 0
  cell_here j v l z = z ∙ sym (cells_at_lem bs from n j l)

  -- one cell more in the hash
  pub hash_cell : (h w j v : ℕ) → j < n → v ≡ cell_at bs (from + 4 * j) → w ≡ mixed h v
      → hash_from w (drop (j + 1) (cells_at bs from n)) ≡ hash_from h (drop j (cells_at bs from n))
  hash_cell h w j v l z m =
      hash_more (cells_at bs from n) h w j v (omega (arith, cells_length bs from n)) (cell_here j v l z) m

  module _ (cells : List ℕ) where
    -- a cell that is not the candidate's
    pub cells_differ : (j v : ℕ) → j < n → v ≡ cell_at bs (from + 4 * j) → (v ≡ get_or cells j 0 → ⊥)
        → same (cells_at bs from n) cells ≡ false
    cells_differ j v l z d = same_not (cells_at bs from n) cells j (λ s. d (cell_here j v l z ∙ s))

    -- all are
    pub cells_agree : length cells ≡ n → ((i : ℕ) → i < n → cell_at bs (from + 4 * i) ≡ get_or cells i 0)
        → same (cells_at bs from n) cells ≡ true
    cells_agree l h =
        same_all (cells_at bs from n) cells (cells_length bs from n ∙ sym l)
        (λ i k. let b : i < n = omega (arith, cells_length bs from n) in cells_at_lem bs from n i b ∙ h i b)

-- a standing of a ring claim
module _ (ring : Bool) (e : ring ≡ true) where
  pub ring_count : (67 ≡ cell_count ring) × (67 ≤ 67)
  unfolding cell_count
  ring_count = go ring e
    where
      go : (b : Bool) → b ≡ true → (67 ≡ cell_count b) × (67 ≤ 67)
      go true z = (refl, omega arith)
      go false z = absurd (true_not_false z refl)

  module _ (base i size : ℕ) (l : base + field_length ring * suc i ≤ size) where
    pub ring_fits_lem : base + 269 * i + 269 ≤ size
    unfolding field_length
    ring_fits_lem = go ring e l
      where
        go : (b : Bool) → b ≡ true → base + field_length b * suc i ≤ size → base + 269 * i + 269 ≤ size
        go true z h = omega arith
        go false z h = absurd (true_not_false z refl)

    pub ring_begin_lem : (base + 269 * i + 1 ≡ base + field_length ring * i + cell_start ring) × (base + 269 * i + 1 + 4 * cell_count ring ≤ size)
    unfolding field_length cell_start cell_count
    ring_begin_lem = go ring e
      where
        go : (b : Bool) → b ≡ true
            → (base + 269 * i + 1 ≡ base + field_length b * i + cell_start b) × (base + 269 * i + 1 + 4 * cell_count b ≤ size)
        go true z = (refl, omega (arith, ring_fits_lem))
        go false z = absurd (true_not_false z refl)

-- and of a path claim
module _ (ring : Bool) (e : ring ≡ false) where
  pub path_count : (4 ≡ cell_count ring) × (4 ≤ 67)
  unfolding cell_count
  path_count = go ring e
    where
      go : (b : Bool) → b ≡ false → (4 ≡ cell_count b) × (4 ≤ 67)
      go false z = (refl, omega arith)
      go true z = absurd (true_not_false refl z)

  module _ (base i size : ℕ) (l : base + field_length ring * suc i ≤ size) where
    pub path_fits_lem : base + 19 * i + 19 ≤ size
    unfolding field_length
    path_fits_lem = go ring e l
      where
        go : (b : Bool) → b ≡ false → base + field_length b * suc i ≤ size → base + 19 * i + 19 ≤ size
        go false z h = omega arith
        go true z h = absurd (true_not_false refl z)

    pub path_begin_lem : (base + 19 * i + 3 ≡ base + field_length ring * i + cell_start ring) × (base + 19 * i + 3 + 4 * cell_count ring ≤ size)
    unfolding field_length cell_start cell_count
    path_begin_lem = go ring e
      where
        go : (b : Bool) → b ≡ false
            → (base + 19 * i + 3 ≡ base + field_length b * i + cell_start b) × (base + 19 * i + 3 + 4 * cell_count b ≤ size)
        go false z = (refl, omega (arith, path_fits_lem))
        go true z = absurd (true_not_false refl z)

-- a standing below the last lies in the sheet
pub below_fits : (ring : Bool) (base n i size : ℕ) → i < n → base + field_length ring * n ≤ size → base + field_length ring * suc i ≤ size
unfolding field_length
below_fits true base n i size h l = omega arith
below_fits false base n i size h l = omega arith

-- its cells, from where they begin
pub cells_listed_lem : (ring : Bool) (bs : List ℕ) (base i from k : ℕ)
    → from ≡ base + field_length ring * i + cell_start ring → k ≡ cell_count ring → cells_at bs from k ≡ listed_cells ring bs base i
unfolding listed_cells standing_cells
cells_listed_lem ring bs base i from k e z = ap₂ (cells_at bs) e z

-- compared where they lie
pub equal_listed : (ring : Bool) (bs : List ℕ) (base i from k : ℕ) (cells : List ℕ) (b : Bool)
    → from ≡ base + field_length ring * i + cell_start ring → k ≡ cell_count ring → b ≡ same (cells_at bs from k) (take k cells)
    → same (listed_cells ring bs base i) (take (cell_count ring) cells) ≡ b
equal_listed ring bs base i from k cells b e z h =
    sym (h ∙ ap₂ same (cells_listed_lem ring bs base i from k e z) (ap (λ n. take n cells) z))

-- The bytes of a sheet as cells: four bytes are one cell, eight are two; and what stands in a row of cells.
-- Assumes nothing.
use Prim.Native.Nat.{ℕ, zero, suc, ◌+◌, ◌*◌, ◌^◌, ◌≤◌, ◌<◌}
use native.Mathlib.Omega.{arith}
use mathlib.Core.Path.{◌≡◌, refl, sym, ◌∙◌, ap, ap₂, subst}
use mathlib.Core.Logic.{⊎_elim}
use mathlib.Core.Bool.{Bool, true, false, cond}
use mathlib.Core.List.{List, [], ◌∷◌, ◌++◌}
use lib.Dec.{leb}
use lib.ListN.{length, get_or, take, drop, length-drop, get_or-eq_default}
use lib.Seq.{length-take-le, drop-drop, take-add}
use borrow.Author.Tests.{le-leb, leb-true}
use Rattle.kat.specs.Lists.{here, there}
use Rattle.kat.proofs.Bools.{le_or_lt}
use Rattle.claims.specs.Fields.{from_bytes}
use Rattle.claims.specs.SheetWriting.{AllBytes}
use Rattle.claims.proofs.StandingExactly.{bytes_take, bytes_drop}
use Rattle.memory.proofs.Words.{words_length, words_at_lem}
use Rattle.fields.specs.Places.{cell_at, cells_at}

-- what stands at a place of the bytes is a byte
pub byte_small : (bs : List ℕ) → AllBytes bs → (i : ℕ) → get_or bs i 0 < 256
byte_small [] all i = omega arith
byte_small (b ∷ bs) all zero = all b (here refl)
byte_small (b ∷ bs) all (suc i) = byte_small bs (λ x j. all x (there j)) i

-- bytes read in two parts
pub bytes_append : (m : ℕ) (xs ys : List ℕ) → from_bytes m (xs ++ ys) ≡ from_bytes (from_bytes m xs) ys
unfolding from_bytes
bytes_append m [] ys = refl
bytes_append m (x ∷ xs) ys = bytes_append (m * 256 + x) xs ys

-- a number of four bytes behind m
pub bytes_behind : (m : ℕ) (bs : List ℕ) → length bs ≡ 4 → from_bytes m bs ≡ m * 2 ^ 32 + from_bytes 0 bs
unfolding from_bytes
bytes_behind m (a ∷ b ∷ c ∷ d ∷ []) h = omega arith
bytes_behind m [] h = absurd (omega arith)
bytes_behind m (a ∷ []) h = absurd (omega arith)
bytes_behind m (a ∷ b ∷ []) h = absurd (omega arith)
bytes_behind m (a ∷ b ∷ c ∷ []) h = absurd (omega arith)
bytes_behind m (a ∷ b ∷ c ∷ d ∷ e ∷ bs) h = absurd (omega arith)

-- four bytes are a number of 32 bits
pub four_small : (bs : List ℕ) → length bs ≡ 4 → AllBytes bs → from_bytes 0 bs < 2 ^ 32
unfolding from_bytes
four_small (w ∷ x ∷ y ∷ z ∷ []) h b =
    let p : w < 256 = b w (here refl) in
    let q : x < 256 = b x (there (here refl)) in
    let r : y < 256 = b y (there (there (here refl))) in
    let s : z < 256 = b z (there (there (there (here refl)))) in
    omega arith
four_small [] h b = absurd (omega arith)
four_small (w ∷ []) h b = absurd (omega arith)
four_small (w ∷ x ∷ []) h b = absurd (omega arith)
four_small (w ∷ x ∷ y ∷ []) h b = absurd (omega arith)
four_small (w ∷ x ∷ y ∷ z ∷ v ∷ bs) h b = absurd (omega arith)

-- so many bytes from place i on are there
pub part_length : (n i : ℕ) (bs : List ℕ) → i + n ≤ length bs → length (take n (drop i bs)) ≡ n
part_length n i bs h = length-take-le n (drop i bs) (omega (arith, length-drop i bs))

-- the cell at place i
pub cell_fits : (bs : List ℕ) (i : ℕ) → i + 4 ≤ length bs → cell_at bs i ≡ from_bytes 0 (take 4 (drop i bs))
unfolding cell_at
cell_fits bs i h = ap (λ b. cond b (from_bytes 0 (take 4 (drop i bs))) 0) (le-leb (i + 4) (length bs) h)

pub cell_small : (bs : List ℕ) (i : ℕ) → AllBytes bs → cell_at bs i < 2 ^ 32
unfolding cell_at
cell_small bs i b = go (leb (i + 4) (length bs)) refl
  where
    go : (t : Bool) → leb (i + 4) (length bs) ≡ t → cond t (from_bytes 0 (take 4 (drop i bs))) 0 < 2 ^ 32
    go true e =
        four_small (take 4 (drop i bs)) (part_length 4 i bs (leb-true (i + 4) (length bs) e)) (bytes_take 4 (drop i bs) (bytes_drop i bs b))
    go false e = omega arith

-- eight bytes are two cells
pub two_cells : (bs : List ℕ) (i : ℕ) → i + 8 ≤ length bs → from_bytes 0 (take 8 (drop i bs)) ≡ cell_at bs i * 2 ^ 32 + cell_at bs (i + 4)
two_cells bs i h =
    ap (from_bytes 0) (take-add 4 4 (drop i bs) ∙ ap (λ xs. take 4 (drop i bs) ++ take 4 xs) (drop-drop 4 i bs))
    ∙ bytes_append 0 (take 4 (drop i bs)) (take 4 (drop (i + 4) bs))
    ∙ bytes_behind (from_bytes 0 (take 4 (drop i bs))) (take 4 (drop (i + 4) bs)) (part_length 4 (i + 4) bs (omega arith))
    ∙ ap₂ (λ m n. m * 2 ^ 32 + n) (sym (cell_fits bs i (omega arith))) (sym (cell_fits bs (i + 4) (omega arith)))

-- n cells from place i on
module _ (bs : List ℕ) (i n : ℕ) where
  pub cells_length : length (cells_at bs i n) ≡ n
  unfolding cells_at
  cells_length = words_length n (λ j. cell_at bs (i + 4 * j))

  pub cells_at_lem : (j : ℕ) → j < n → get_or (cells_at bs i n) j 0 ≡ cell_at bs (i + 4 * j)
  unfolding cells_at
  cells_at_lem j h = words_at_lem n (λ j. cell_at bs (i + 4 * j)) j h

  pub cells_small : AllBytes bs → (j : ℕ) → get_or (cells_at bs i n) j 0 < 2 ^ 32
  cells_small b j =
      ⊎_elim
      (λ h. subst (λ c. c < 2 ^ 32) (sym (get_or-eq_default (cells_at bs i n) 0 (omega (arith, cells_length)))) (omega arith))
      (λ h. subst (λ c. c < 2 ^ 32) (sym (cells_at_lem j h)) (cell_small bs (i + 4 * j) b)) (le_or_lt n j)

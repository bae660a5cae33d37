-- The cells of a standing as the code tests them, one test behind the other: the first that fails decides.
-- Assumes nothing.
use Prim.Native.Nat.{ℕ, suc, ◌+◌, ◌*◌, ◌/◌, ◌%◌, ◌^◌, ◌≤◌, ◌<◌}
use native.Mathlib.Omega.{arith}
use mathlib.Core.Path.{◌≡◌, ◌∙◌, ap, ap₂, subst}
use mathlib.Core.Bool.{Bool, true, false, ◌&&◌}
use mathlib.Core.List.{List}
use lib.Dec.{ltb, leb}
use lib.ListN.{get_or, take, drop}
use lib.Seq.{get_or-take}
use borrow.Author.Tests.{lt-ltb, le-ltb, le-leb, lt-leb}
use Rattle.claims.specs.SheetReading.{row_of_m, row_of_n, rows_pass}
use Rattle.sheet_standings.specs.Layout.{wide}
use Rattle.sheet_standings.specs.PathCells.{path_fits}
use Rattle.sheet_standings.specs.RingCells.{ring_fits, first_in, flag_in}
use Rattle.sheet_fits.specs.Small.{SmallCells}

-- a cell among the first n is small
pub small_cell : (n : ℕ) (s : List ℕ) → SmallCells n s → (i : ℕ) → i < n → get_or s i 0 < 2 ^ 32
small_cell n s c i h = subst (λ m. m < 2 ^ 32) (get_or-take n s i 0 h) (c.small i)

-- the word that two of the first n cells are
pub wide_taken : (n : ℕ) (s : List ℕ) (i : ℕ) → suc i < n → wide (take n s) i ≡ wide s i
unfolding wide
wide_taken n s i h =
    ap₂ (λ x y. x * 2 ^ 32 + y) (get_or-take n s i 0 (omega arith)) (get_or-take n s (suc i) 0 h)

pub wide_is : (s : List ℕ) (i : ℕ) → get_or s i 0 * 4294967296 + get_or s (i + 1) 0 ≡ wide s i
unfolding wide
wide_is s i = let e : i + 1 ≡ suc i = omega arith in ap (λ j. get_or s i 0 * 4294967296 + get_or s j 0) e

-- a path standing: P, then S
module _ (l r : ℕ) (s : List ℕ) where
  pub left_wrong : ltb (wide s 0) (2 ^ l) ≡ false → path_fits l r (take 4 s) ≡ false
  unfolding path_fits
  left_wrong e = rw (path_fits, wide_taken 4 s 0 (omega arith), e)

  pub left_right : ltb (wide s 0) (2 ^ l) ≡ true → path_fits l r (take 4 s) ≡ ltb (wide s 2) (2 ^ r)
  unfolding path_fits
  left_right e = rw (path_fits, wide_taken 4 s 0 (omega arith), wide_taken 4 s 2 (omega arith), e)

-- a ring standing: first atom, Z, P, M, N
module _ (atoms l r : ℕ) (s : List ℕ) where
  abbrev t : List ℕ
  t = take 67 s

  abbrev rows_m : Bool
  rows_m = rows_pass (row_of_m r) 0 (take 32 (drop 3 t))

  abbrev rows_n : Bool
  rows_n = rows_pass (row_of_n r) 0 (take 32 (drop 35 t))

  -- the five tests
  tests : ring_fits atoms l r t
      ≡ (ltb (get_or s 0 0 / 256 % 256) atoms && leb (get_or s 0 0 % 256) 1 && ltb (wide s 1) (2 ^ l) && rows_m && rows_n)
  unfolding ring_fits first_in flag_in
  tests =
      ap (λ h. ltb (h / 256 % 256) atoms && leb (h % 256) 1 && ltb (wide t 1) (2 ^ l) && rows_m && rows_n) (get_or-take 67 s 0 0 (omega arith))
      ∙ ap (λ w. ltb (get_or s 0 0 / 256 % 256) atoms && leb (get_or s 0 0 % 256) 1 && ltb w (2 ^ l) && rows_m && rows_n)
      (wide_taken 67 s 1 (omega arith))

  pub first_wrong : atoms ≤ get_or s 0 0 / 256 % 256 → ring_fits atoms l r t ≡ false
  first_wrong h = tests ∙ rw (le-ltb (get_or s 0 0 / 256 % 256) atoms h)

  module _ (first : get_or s 0 0 / 256 % 256 < atoms) where
    pub flag_wrong : 1 < get_or s 0 0 % 256 → ring_fits atoms l r t ≡ false
    flag_wrong h = tests ∙ rw (lt-ltb (get_or s 0 0 / 256 % 256) atoms first, lt-leb (get_or s 0 0 % 256) 1 h)

    module _ (flag : get_or s 0 0 % 256 ≤ 1) where
      pub set_wrong : ltb (wide s 1) (2 ^ l) ≡ false → ring_fits atoms l r t ≡ false
      set_wrong e = tests ∙ rw (lt-ltb (get_or s 0 0 / 256 % 256) atoms first, le-leb (get_or s 0 0 % 256) 1 flag, e)

      pub rows_m_wrong : ltb (wide s 1) (2 ^ l) ≡ true → rows_m ≡ false → ring_fits atoms l r t ≡ false
      rows_m_wrong e m = tests ∙ rw (lt-ltb (get_or s 0 0 / 256 % 256) atoms first, le-leb (get_or s 0 0 % 256) 1 flag, e, m)

      pub rows_n_left : ltb (wide s 1) (2 ^ l) ≡ true → rows_m ≡ true → ring_fits atoms l r t ≡ rows_n
      rows_n_left e m = tests ∙ rw (lt-ltb (get_or s 0 0 / 256 % 256) atoms first, le-leb (get_or s 0 0 % 256) 1 flag, e, m)

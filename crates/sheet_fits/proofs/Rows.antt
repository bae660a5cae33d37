-- Sets and rows that have no bit too large, as the code tests them; and the rows of a table one behind the other. What is left of the rows
-- passes exactly where all do.
-- Assumes nothing.
use Prim.Native.Nat.{ℕ, suc, ◌+◌, ◌-◌, ◌%◌, ◌^◌, ◌≤◌, ◌<◌, min}
use native.Mathlib.Nat.{pow-le-pow_right, min-eq_left, min-eq_right}
use native.Mathlib.Omega.{arith}
use mathlib.Core.Path.{◌≡◌, refl, sym, ◌∙◌, ap}
use mathlib.Core.Logic.{⊎_elim}
use mathlib.Core.Bool.{Bool, true, false, ◌&&◌}
use mathlib.Core.List.{List}
use lib.Dec.{eqb, ltb, leb}
use lib.ListN.{length, get_or, take, drop, length-drop, drop_of_length-le}
use lib.Pow.{pow_pos}
use lib.Seq.{drop-cons, get_or-take, get_or-drop, length-take-le}
use borrow.Author.Tests.{lt-ltb, ltb-true, le-leb, lt-leb, leb-true, eq-eqb, ne_eqb}
use Rattle.kat.proofs.Bools.{bool_ext, le_or_lt}
use Rattle.claims.specs.SheetReading.{row_of_m, row_of_n, rows_pass}
use Rattle.bits.specs.Sets.{all_below}
use Rattle.bits.proofs.Rows.{all_small, all_large}

-- a machine word has no bit from n on where it is no more than all bits below n
pub below_test : (s n : ℕ) → s < 2 ^ 64 → leb s (all_below 64 n) ≡ ltb s (2 ^ n)
below_test s n h = ⊎_elim few many (le_or_lt n 64)
  where
    few : n ≤ 64 → leb s (all_below 64 n) ≡ ltb s (2 ^ n)
    few l =
        ap (leb s) (all_small 64 n l)
        ∙ bool_ext (leb s (2 ^ n - 1)) (ltb s (2 ^ n)) (λ e. lt-ltb s (2 ^ n) (omega (arith, leb-true s (2 ^ n - 1) e, pow_pos n)))
        (λ e. le-leb s (2 ^ n - 1) (omega (arith, ltb-true s (2 ^ n) e)))

    many : 64 < n → leb s (all_below 64 n) ≡ ltb s (2 ^ n)
    many l =
        ap (leb s) (all_large 64 n (omega arith)) ∙ le-leb s (2 ^ 64 - 1) (omega arith)
        ∙ sym (lt-ltb s (2 ^ n) (omega (arith, pow-le-pow_right {n = 2} (omega arith) {i = 64} {j = n} (omega arith))))

-- the bits above r, of which a machine word has none from 64 on
pub row_test : (m r : ℕ) → m < 2 ^ 64 → ltb m (2 ^ (min r 63 + 1)) ≡ ltb m (2 ^ suc r)
row_test m r h = ⊎_elim few many (le_or_lt r 63)
  where
    few : r ≤ 63 → ltb m (2 ^ (min r 63 + 1)) ≡ ltb m (2 ^ suc r)
    few l = let e : min r 63 + 1 ≡ suc r = omega (arith, min-eq_left l) in ap (λ k. ltb m (2 ^ k)) e

    many : 63 < r → ltb m (2 ^ (min r 63 + 1)) ≡ ltb m (2 ^ suc r)
    many l =
        let k : 63 ≤ r = omega arith in
        let e : min r 63 + 1 ≡ 64 = omega (arith, min-eq_right k) in
        ap (λ j. ltb m (2 ^ j)) e ∙ lt-ltb m (2 ^ 64) h
        ∙ sym (lt-ltb m (2 ^ suc r) (omega (arith, pow-le-pow_right {n = 2} (omega arith) {i = 64} {j = suc r} (omega arith))))

and-false : (b : Bool) → (b && false) ≡ false
and-false true = refl
and-false false = refl

and-true : (b : Bool) → (b && true) ≡ b
and-true true = refl
and-true false = refl

-- row p of M, with r right occurrences
pub outside_m : (r p m : ℕ) → r < p → row_of_m r p m ≡ eqb m 0
unfolding row_of_m
outside_m r p m h = rw (row_of_m, lt-leb p r h)

pub odd_m : (r p m : ℕ) → p ≤ r → (m % 2 ≡ 0 → ⊥) → row_of_m r p m ≡ false
unfolding row_of_m
odd_m r p m h n = rw (row_of_m, le-leb p r h, ne_eqb (m % 2) 0 n) (and-false (ltb m (2 ^ suc r)))

pub inside_m : (r p m : ℕ) → p ≤ r → m % 2 ≡ 0 → row_of_m r p m ≡ ltb m (2 ^ suc r)
unfolding row_of_m
inside_m r p m h e = rw (row_of_m, le-leb p r h, eq-eqb (m % 2) 0 e) (and-true (ltb m (2 ^ suc r)))

-- row q of N
pub first_n_lem : (r q m : ℕ) → q ≡ 0 → row_of_n r q m ≡ eqb m 0
unfolding row_of_n
first_n_lem r q m e = let h : q < 1 = omega arith in rw (row_of_n, lt-leb 1 q h)

pub outside_n : (r q m : ℕ) → 1 ≤ q → r < q → row_of_n r q m ≡ eqb m 0
unfolding row_of_n
outside_n r q m l h = rw (row_of_n, le-leb 1 q l, lt-leb q r h)

pub inside_n : (r q m : ℕ) → 1 ≤ q → q ≤ r → row_of_n r q m ≡ ltb m (2 ^ suc r)
unfolding row_of_n
inside_n r q m l h = rw (row_of_n, le-leb 1 q l, le-leb q r h)

-- the rows from p on
module _ (f : ℕ → ℕ → Bool) (rows : List ℕ) (p : ℕ) where
  pub rows_more : p < length rows → f p (get_or rows p 0) ≡ true → rows_pass f (p + 1) (drop (p + 1) rows) ≡ rows_pass f p (drop p rows)
  unfolding rows_pass
  rows_more h e =
      let one : p + 1 ≡ suc p = omega arith in
      ap (λ k. rows_pass f k (drop k rows)) one ∙ sym (ap (rows_pass f p) (drop-cons rows p 0 h) ∙ rw e)

  pub rows_wrong : p < length rows → f p (get_or rows p 0) ≡ false → rows_pass f p (drop p rows) ≡ false
  unfolding rows_pass
  rows_wrong h e = ap (rows_pass f p) (drop-cons rows p 0 h) ∙ rw e

  pub rows_end : length rows ≤ p → rows_pass f p (drop p rows) ≡ true
  unfolding rows_pass
  rows_end h = ap (rows_pass f p) (drop_of_length-le rows h)

-- the 32 rows of a table among the cells of a standing
module _ (s : List ℕ) (start : ℕ) (h : start ≤ 35) where
  pub rows_size : length (take 67 s) ≡ 67 → length (take 32 (drop start (take 67 s))) ≡ 32
  rows_size n = length-take-le 32 (drop start (take 67 s)) (omega (arith, length-drop start (take 67 s)))

  pub rows_at : (p : ℕ) → p < 32 → get_or (take 32 (drop start (take 67 s))) p 0 ≡ get_or s (start + p) 0
  rows_at p l =
      get_or-take 32 (drop start (take 67 s)) p 0 l ∙ get_or-drop start (take 67 s) p 0 ∙ get_or-take 67 s (start + p) 0 (omega arith)

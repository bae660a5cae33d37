-- What the functions on sets give, by bits: a set with one more member, all below a place, the union of rows, whether a row meets a
-- set; and that each stays within its width. Widths are arguments, so that the laws serve rows of any width.
-- Assumes nothing.
use Prim.Native.Nat.{ℕ, ◌-◌, ◌*◌, ◌%◌, ◌^◌, ◌≤◌, ◌<◌, min}
use native.Mathlib.Nat.{one-mul, pow-le-pow_right, sub-zero, lt_of_le_of_lt}
use native.Mathlib.Omega.{arith}
use mathlib.Core.Path.{◌≡◌, refl, sym, ◌∙◌, ap, ap₂}
use mathlib.Core.Logic.{⊎_elim}
use mathlib.Core.Bool.{Bool, true, false, not, ◌||◌}
use mathlib.Core.List.{List, [], ◌∷◌}
use lib.Bits.{bit_and, bit_or, or_lt, or_add_and, and_le_l, and_le_r, and_comm}
use lib.Dec.{eqb, ltb}
use lib.Pow.{pow_pos, pow-lt, ones_lt, shl_exact}
use borrow.Author.Tests.{lt-ltb, le-ltb, eqb-true, eqb-false, ne_eqb}
use Rattle.kat.specs.Lists.{In, here, there, is_empty, some}
use Rattle.kat.proofs.Bools.{le_or_lt}
use Rattle.kat.proofs.Sets.{some_same}
use Rattle.claims.specs.Query.{bit}
use Rattle.claims.specs.Fields.{number_set}
use Rattle.bits.specs.Sets.{including, all_below, row, union_over, union_rows, meets, meets_rows, any_member}
use Rattle.bits.proofs.Bit.{bit-bit_or, bit_none, bit_pow, bit_ones, bits_equal, and_or}
use Rattle.bits.proofs.Lists.{some_filled}
use Rattle.bits.proofs.Members.{number_and, some_or, empty_test}

-- the code's 1 << k
pub shifted_one : (w k : ℕ) → k < w → 1 * 2 ^ k % 2 ^ w ≡ 2 ^ k
shifted_one w k h = shl_exact 1 k w (omega arith) (omega arith) ∙ one-mul (2 ^ k)

-- one more member
pub including_in : (w s k : ℕ) → k < w → including w s k ≡ bit_or s (2 ^ k)
unfolding including
including_in w s k h = rw (including, lt-ltb k w h)

pub including_out : (w s k : ℕ) → w ≤ k → including w s k ≡ s
unfolding including
including_out w s k h = rw (including, le-ltb k w h)

pub bit_including : (w s k i : ℕ) → k < w → bit i (including w s k) ≡ (bit i s || eqb i k)
bit_including w s k i h = ap (bit i) (including_in w s k h) ∙ bit-bit_or i s (2 ^ k) ∙ ap (λ b. bit i s || b) (bit_pow i k)

pub including_below : (w s k : ℕ) → s < 2 ^ w → including w s k < 2 ^ w
including_below w s k h =
    ⊎_elim (λ a. rw (including_out w s k a) h)
    (λ a. rw (including_in w s k a) (or_lt w s (2 ^ k) h (pow-lt a))) (le_or_lt w k)

-- all below a place
pub all_small : (w n : ℕ) → n ≤ w → all_below w n ≡ 2 ^ n - 1
unfolding all_below
all_small w n h = let e : min n w ≡ n = omega arith in ap (λ k. 2 ^ k - 1) e

pub all_large : (w n : ℕ) → w ≤ n → all_below w n ≡ 2 ^ w - 1
unfolding all_below
all_large w n h = let e : min n w ≡ w = omega arith in ap (λ k. 2 ^ k - 1) e

pub bit_all : (w n i : ℕ) → bit i (all_below w n) ≡ ltb i (min n w)
unfolding all_below
bit_all w n i = bit_ones i (min n w)

pub all_below_lem : (w n : ℕ) → all_below w n < 2 ^ w
unfolding all_below
all_below_lem w n =
    omega (arith, ones_lt (min n w), pow-le-pow_right {n = 2} (omega arith) {i = min n w} {j = w} (omega arith))

-- a union of rows, bit by bit
pub bit_union_over : (rows : List ℕ) (i : ℕ) (ks : List ℕ) → bit i (union_over rows ks) ≡ some (λ k. bit i (row rows k)) ks
unfolding union_over
bit_union_over rows i [] = bit_none i
bit_union_over rows i (k ∷ ks) =
    bit-bit_or i (row rows k) (union_over rows ks) ∙ ap (λ b. bit i (row rows k) || b) (bit_union_over rows i ks)

pub union_over_below : (rows : List ℕ) (w : ℕ) (ks : List ℕ)
    → ((k : ℕ) → In k ks → row rows k < 2 ^ w) → union_over rows ks < 2 ^ w
unfolding union_over
union_over_below rows w [] h = pow_pos w
union_over_below rows w (k ∷ ks) h =
    or_lt w (row rows k) (union_over rows ks) (h k (here refl)) (union_over_below rows w ks (λ j i. h j (there i)))

module _ (rows : List ℕ) where
  pub bit_union : (s i : ℕ) → bit i (union_rows rows s) ≡ some (λ k. bit i (row rows k)) (number_set 0 64 s)
  unfolding union_rows
  bit_union s i = bit_union_over rows i (number_set 0 64 s)

  -- k is in some row exactly where it is in the union
  pub any_union : (s k : ℕ) → any_member rows s k ≡ bit k (union_rows rows s)
  unfolding any_member
  any_union s k = sym (bit_union s k)

  -- rows all below 2 ^ w have a union below it
  pub union_below : (w s : ℕ) → ((k : ℕ) → row rows k < 2 ^ w) → union_rows rows s < 2 ^ w
  unfolding union_rows
  union_below w s h = union_over_below rows w (number_set 0 64 s) (λ k i. h k)

  -- the rows of a union of sets
  pub union_or : (s t : ℕ) → union_rows rows (bit_or s t) ≡ bit_or (union_rows rows s) (union_rows rows t)
  union_or s t =
      bits_equal (union_rows rows (bit_or s t)) (bit_or (union_rows rows s) (union_rows rows t))
      (λ i. bit_union (bit_or s t) i ∙ some_or (λ k. bit i (row rows k)) 0 64 s t
      ∙ sym (bit-bit_or i (union_rows rows s) (union_rows rows t) ∙ ap₂ ◌||◌ (bit_union s i) (bit_union t i)))

-- a union is empty exactly where both sets are
or_empty : (a b : ℕ) → not (eqb (bit_or a b) 0) ≡ (not (eqb a 0) || not (eqb b 0))
or_empty a b = go (eqb a 0) refl
  where
    go : (x : Bool) → eqb a 0 ≡ x → not (eqb (bit_or a b) 0) ≡ (not x || not (eqb b 0))
    go true p = ap (λ k. not (eqb (bit_or k b) 0)) (eqb-true a 0 p)
    go false p =
        ap not (ne_eqb (bit_or a b) 0 (λ e. eqb-false a 0 p (omega (arith, or_add_and a b, and_le_r a b))))

-- the code's test, of a row r that was read
pub meets_true : (r a t : ℕ) → r ≡ a → (bit_and r t ≡ 0 → ⊥) → meets a t ≡ true
unfolding meets
meets_true r a t e h = ap (λ k. not (eqb (bit_and k t) 0)) (sym e) ∙ ap not (ne_eqb (bit_and r t) 0 h)

pub meets_false : (r a t : ℕ) → r ≡ a → bit_and r t ≡ 0 → meets a t ≡ false
unfolding meets
meets_false r a t e h = ap (λ k. not (eqb (bit_and k t) 0)) (sym e) ∙ ap (λ k. not (eqb k 0)) h

pub meets_comm : (s t : ℕ) → meets s t ≡ meets t s
unfolding meets
meets_comm s t = ap (λ k. not (eqb k 0)) (and_comm s t)

pub meets_or : (a b t : ℕ) → meets (bit_or a b) t ≡ (meets a t || meets b t)
unfolding meets
meets_or a b t =
    ap (λ k. not (eqb k 0)) (and_comm (bit_or a b) t ∙ and_or t a b ∙ ap₂ bit_or (and_comm t a) (and_comm t b))
    ∙ or_empty (bit_and a t) (bit_and b t)

-- two sets meet where some member of the one is in the other
pub meets_some : (w s t : ℕ) → s < 2 ^ w → meets s t ≡ some (λ k. bit k t) (number_set 0 w s)
unfolding meets
meets_some w s t h =
    sym
    (some_same (λ k. bit k t) (λ k. bit (k - 0) t) (number_set 0 w s) (λ k i. ap (λ j. bit j t) (sym (sub-zero k)))
    ∙ some_filled (λ k. bit (k - 0) t) (number_set 0 w s)
    ∙ ap (λ l. not (is_empty l)) (sym (number_and 0 w s t))
    ∙ ap not (empty_test 0 w (bit_and s t) (rw (sub-zero w) (lt_of_le_of_lt (and_le_l s t) h))))

-- some row meets t exactly where the union does
meets_union_over : (rows : List ℕ) (t : ℕ) (ks : List ℕ) → some (λ k. meets (row rows k) t) ks ≡ meets (union_over rows ks) t
unfolding union_over meets
meets_union_over rows t [] = refl
meets_union_over rows t (k ∷ ks) =
    ap (λ b. meets (row rows k) t || b) (meets_union_over rows t ks) ∙ sym (meets_or (row rows k) (union_over rows ks) t)

pub meets_union : (rows : List ℕ) (s t : ℕ) → meets_rows rows s t ≡ meets (union_rows rows s) t
unfolding meets_rows union_rows
meets_union rows s t = meets_union_over rows t (number_set 0 64 s)

-- The lowest member of a set that is not empty: the count of the number's trailing zeros. Without it the set is `s & (s - 1)`: bit by
-- bit, in its count of ones and as a list of members. One induction gives every fact: an odd number has lowest member 0 and loses
-- just that; twice a number has the number's lowest member, one higher, and loses twice what the number loses.
-- Assumes nothing.
use Prim.Native.Nat.{ℕ, zero, suc, ◌+◌, ◌-◌, ◌*◌, ◌/◌, ◌%◌, ◌^◌, ◌<◌}
use native.Mathlib.Nat.{pow-suc, zero-add}
use native.Mathlib.Omega.{arith}
use mathlib.Core.Path.{◌≡◌, refl, sym, ◌∙◌, ap, ap₂, subst, subst₂}
use mathlib.Core.Logic.{◌⊎◌}
use mathlib.Core.Logic.◌⊎◌.{inl, inr}
use mathlib.Core.Bool.{true, false, not, ◌&&◌, and-true, and-false}
use mathlib.Core.List.{◌∷◌}
use lib.Bits.{bit_and, and_step, and_self}
use lib.Count.{ones, ones_step, under, count_trailing_zeros}
use lib.Dec.{eqb, eqb-suc-zero, eqb-suc-suc}
use lib.Pow.{pow_pos}
use Rattle.claims.specs.Query.{bit}
use Rattle.claims.specs.Fields.{number_set}
use Rattle.claims.proofs.SetBytes.{bit_zero, bit_suc, picked, picked_even, picked_odd}
use Rattle.bits.proofs.Bit.{digit}

-- the bits of twice a number, and of one more
bit_even : (t : ℕ) → bit 0 (2 * t) ≡ false
bit_even t = let e : 2 * t % 2 ≡ 0 = omega arith in bit_zero (2 * t) ∙ ap (λ d. eqb d 1) e

bit_odd : (t : ℕ) → bit 0 (1 + 2 * t) ≡ true
bit_odd t = let e : (1 + 2 * t) % 2 ≡ 1 = omega arith in bit_zero (1 + 2 * t) ∙ ap (λ d. eqb d 1) e

bit_double : (i t : ℕ) → bit (suc i) (2 * t) ≡ bit i t
bit_double i t = let e : 2 * t / 2 ≡ t = omega arith in bit_suc i (2 * t) ∙ ap (bit i) e

bit_double_more : (i t : ℕ) → bit (suc i) (1 + 2 * t) ≡ bit i t
bit_double_more i t = let e : (1 + 2 * t) / 2 ≡ t = omega arith in bit_suc i (1 + 2 * t) ∙ ap (bit i) e

-- what taking the lowest member away leaves
rest_odd : (t : ℕ) → bit_and (1 + 2 * t) (1 + 2 * t - 1) ≡ 2 * t
rest_odd t =
    let a : (1 + 2 * t) / 2 ≡ t = omega arith in
    let b : (1 + 2 * t - 1) / 2 ≡ t = omega arith in
    let e : bit_and ((1 + 2 * t) / 2) ((1 + 2 * t - 1) / 2) ≡ t = ap₂ bit_and a b ∙ and_self t in
    omega (arith, and_step (1 + 2 * t) (1 + 2 * t - 1))

rest_even : (t : ℕ) → 0 < t → bit_and (2 * t) (2 * t - 1) ≡ 2 * bit_and t (t - 1)
rest_even t h =
    let a : 2 * t / 2 ≡ t = omega arith in
    let b : (2 * t - 1) / 2 ≡ t - 1 = omega arith in
    let e : bit_and (2 * t / 2) ((2 * t - 1) / 2) ≡ bit_and t (t - 1) = ap₂ bit_and a b in
    omega (arith, and_step (2 * t) (2 * t - 1))

zeros_odd : (w t : ℕ) → count_trailing_zeros (suc w) (1 + 2 * t) ≡ 0
unfolding count_trailing_zeros
zeros_odd w t = let e : (1 + 2 * t) % 2 ≡ 1 = omega arith in ap (λ d. under d (count_trailing_zeros w ((1 + 2 * t) / 2))) e

zeros_even : (w t : ℕ) → count_trailing_zeros (suc w) (2 * t) ≡ suc (count_trailing_zeros w t)
unfolding count_trailing_zeros
zeros_even w t =
    let e : 2 * t % 2 ≡ 0 = omega arith in
    let f : 2 * t / 2 ≡ t = omega arith in
    ap₂ (λ d k. under d (count_trailing_zeros w k)) e f

-- the induction: w is the width, s the set, m its lowest member, r the set without it
module _ (Q : ℕ → ℕ → ℕ → ℕ → Type 0)
    (odd : (w t : ℕ) → Q (suc w) (1 + 2 * t) 0 (2 * t))
    (even : (w t m r : ℕ) → Q w t m r → Q (suc w) (2 * t) (suc m) (2 * r)) where
  at_odd : (w t : ℕ) → Q (suc w) (1 + 2 * t) (count_trailing_zeros (suc w) (1 + 2 * t)) (bit_and (1 + 2 * t) (1 + 2 * t - 1))
  at_odd w t = subst₂ (Q (suc w) (1 + 2 * t)) (sym (zeros_odd w t)) (sym (rest_odd t)) (odd w t)

  at_even : (w t : ℕ) → 0 < t → Q w t (count_trailing_zeros w t) (bit_and t (t - 1))
      → Q (suc w) (2 * t) (count_trailing_zeros (suc w) (2 * t)) (bit_and (2 * t) (2 * t - 1))
  at_even w t h q =
      subst₂ (Q (suc w) (2 * t)) (sym (zeros_even w t)) (sym (rest_even t h)) (even w t (count_trailing_zeros w t) (bit_and t (t - 1)) q)

  pub lowest_ind : (w s : ℕ) → s < 2 ^ w → 0 < s → Q w s (count_trailing_zeros w s) (bit_and s (s - 1))
  lowest_ind zero s h k = absurd (omega arith)
  lowest_ind (suc w) s h k = go (digit s) (lowest_ind w (s / 2) (omega (arith, pow-suc 2 w)))
    where
      go : (s % 2 ≡ 0) ⊎ (s % 2 ≡ 1) → (0 < s / 2 → Q w (s / 2) (count_trailing_zeros w (s / 2)) (bit_and (s / 2) (s / 2 - 1)))
          → Q (suc w) s (count_trailing_zeros (suc w) s) (bit_and s (s - 1))
      go (inl d) q =
          subst (λ x. Q (suc w) x (count_trailing_zeros (suc w) x) (bit_and x (x - 1))) (omega arith)
          (at_even w (s / 2) (omega arith) (q (omega arith)))
      go (inr d) q = subst (λ x. Q (suc w) x (count_trailing_zeros (suc w) x) (bit_and x (x - 1))) (omega arith) (at_odd w (s / 2))

-- what is known of the lowest member of s, a set of numbers below w, and of s without it
pub record Lowest (w s : ℕ) : Type 0 where
  pub inside : count_trailing_zeros w s < w
  pub set : bit (count_trailing_zeros w s) s ≡ true
  pub lower : (i : ℕ) → i < count_trailing_zeros w s → bit i s ≡ false
  -- without it: just its bit is cleared, the number is less by that power of 2, one is counted less
  pub cleared : (i : ℕ) → bit i (bit_and s (s - 1)) ≡ (bit i s && not (eqb i (count_trailing_zeros w s)))
  pub sum : bit_and s (s - 1) + 2 ^ count_trailing_zeros w s ≡ s
  pub less : bit_and s (s - 1) < s
  pub count : ones s ≡ suc (ones (bit_and s (s - 1)))
  pub listed : (lo : ℕ) → number_set lo (lo + w) s ≡ (lo + count_trailing_zeros w s) ∷ number_set lo (lo + w) (bit_and s (s - 1))
  pub members : number_set 0 w s ≡ count_trailing_zeros w s ∷ number_set 0 w (bit_and s (s - 1))

low_lower : (t m : ℕ) → ((i : ℕ) → i < m → bit i t ≡ false) → (i : ℕ) → i < suc m → bit i (2 * t) ≡ false
low_lower t m h zero l = bit_even t
low_lower t m h (suc i) l = bit_double i t ∙ h i (omega arith)

cleared_odd : (t i : ℕ) → bit i (2 * t) ≡ (bit i (1 + 2 * t) && not (eqb i 0))
cleared_odd t zero = bit_even t ∙ sym (and-false (bit 0 (1 + 2 * t)))
cleared_odd t (suc i) =
    rw (eqb-suc-zero i, and-true (bit (suc i) (1 + 2 * t))) (bit_double i t ∙ sym (bit_double_more i t))

cleared_even : (t m r : ℕ) → ((i : ℕ) → bit i r ≡ (bit i t && not (eqb i m)))
    → (i : ℕ) → bit i (2 * r) ≡ (bit i (2 * t) && not (eqb i (suc m)))
cleared_even t m r h zero = rw (bit_even t) (bit_even r)
cleared_even t m r h (suc i) = rw (eqb-suc-suc i m, bit_double i t) (bit_double i r ∙ h i)

ones_odd : (t : ℕ) → ones (1 + 2 * t) ≡ suc (ones t)
ones_odd t =
    let e : (1 + 2 * t) / 2 ≡ t = omega arith in
    omega (arith, ones_step (1 + 2 * t), ap ones e)

ones_even : (t : ℕ) → ones (2 * t) ≡ ones t
ones_even t = let e : 2 * t / 2 ≡ t = omega arith in omega (arith, ones_step (2 * t), ap ones e)

picked_listed : (w s : ℕ) → s < 2 ^ w → 0 < s
    → (lo : ℕ) → picked lo w s ≡ (lo + count_trailing_zeros w s) ∷ picked lo w (bit_and s (s - 1))
picked_listed =
    lowest_ind (λ w s m r. (lo : ℕ) → picked lo w s ≡ (lo + m) ∷ picked lo w r)
    (λ w t lo. let e : lo ≡ lo + 0 = omega arith in
    picked_odd lo w (1 + 2 * t) t refl ∙ ap₂ ◌∷◌ e (sym (picked_even lo w (2 * t) t refl)))
    (λ w t m r h lo. let e : suc lo + m ≡ lo + suc m = omega arith in
    picked_even lo w (2 * t) t refl ∙ h (suc lo) ∙ ap₂ ◌∷◌ e (sym (picked_even lo w (2 * r) r refl)))

pub lowest : (w s : ℕ) → s < 2 ^ w → (s ≡ 0 → ⊥) → Lowest w s
unfolding number_set picked
lowest w s h n =
    let k : 0 < s = omega arith in
    let sum : bit_and s (s - 1) + 2 ^ count_trailing_zeros w s ≡ s =
    lowest_ind (λ w s m r. r + 2 ^ m ≡ s) (λ w t. omega arith) (λ w t m r e. omega (arith, pow-suc 2 m)) w s h k in
    let listed : (lo : ℕ) → number_set lo (lo + w) s ≡ (lo + count_trailing_zeros w s) ∷ number_set lo (lo + w) (bit_and s (s - 1)) =
    λ lo. let e : w ≡ lo + w - lo = omega arith in
    subst (λ n. picked lo n s ≡ (lo + count_trailing_zeros w s) ∷ picked lo n (bit_and s (s - 1))) e (picked_listed w s h k lo) in
    record {
      inside = lowest_ind (λ w s m r. m < w) (λ w t. omega arith) (λ w t m r e. omega arith) w s h k;
      set =
          lowest_ind (λ w s m r. bit m s ≡ true) (λ w t. bit_odd t) (λ w t m r e. bit_double m t ∙ e) w s h k;
      lower =
          lowest_ind (λ w s m r. (i : ℕ) → i < m → bit i s ≡ false) (λ w t i l. absurd (omega arith))
          (λ w t m r e. low_lower t m e) w s h k;
      cleared =
          lowest_ind (λ w s m r. (i : ℕ) → bit i r ≡ (bit i s && not (eqb i m))) (λ w t. cleared_odd t)
          (λ w t m r e. cleared_even t m r e) w s h k;
      sum = sum;
      less = omega (arith, pow_pos (count_trailing_zeros w s));
      count =
          lowest_ind (λ w s m r. ones s ≡ suc (ones r)) (λ w t. omega (arith, ones_odd t, ones_even t))
          (λ w t m r e. omega (arith, ones_even t, ones_even r)) w s h k;
      listed = listed;
      members = simp zero-add at (listed 0);
    }

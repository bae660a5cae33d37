-- The rows of a ring standing as the sheet has them, from its words: row p of M has bit q where column q has bit p, and row q of N is the
-- upper half of column q. (Document 01, "Sheet and graph bytes".) Rows past the right occurrences are empty on both sides.
-- Assumes nothing.
use Prim.Native.Nat.{ℕ, zero, suc, ◌-◌, ◌/◌, ◌^◌, ◌≤◌, ◌<◌}
use native.Mathlib.Omega.{arith}
use mathlib.Core.Path.{◌≡◌, refl, sym, ◌∙◌, ap}
use mathlib.Core.Logic.{⊎_elim}
use mathlib.Core.Bool.{Bool, false, cond, not}
use mathlib.Core.List.{List, []}
use lib.Dec.{eqb}
use lib.ListN.{get_or}
use lib.Pow.{pow_pos, shr_lt}
use native.Mathlib.Nat.{pow-le-pow_right, lt_of_lt_of_le}
use borrow.Author.Tests.{ne_eqb}
use Rattle.kat.specs.Lists.{counted, upto, filter}
use Rattle.kat.proofs.Bools.{le_or_lt}
use Rattle.kat.proofs.Sets.{filter_none, counted_in_lem, at_upto, past_upto, filter_same}
use Rattle.claims.specs.Query.{bit}
use Rattle.claims.specs.Fields.{set_number}
use Rattle.claims.specs.Standings.{row}
use Rattle.bits.proofs.Bit.{bit_none, bit_above, bit_ext}
use Rattle.side_atoms.proofs.Atoms.{bit_of, number_small}
use Rattle.search_standings.specs.RingWords.{in_m, in_n}
use Rattle.bits.proofs.Shifted.{bit_down}
use Rattle.search_standings.proofs.RingShown.{row_m, row_n, ring_shown, GoodRing, in_n_some, in_n_none}

-- q in row p of M, from 1 on
pub in_m_some : (u : List ℕ) (p q : ℕ) → 1 ≤ q → in_m u p q ≡ bit p (get_or u q 0)
unfolding in_m
in_m_some u p q h = ap (λ b. cond b false (bit p (get_or u q 0))) (ne_eqb q 0 (λ e. omega arith))

pub in_m_none : (u : List ℕ) (p : ℕ) → in_m u p 0 ≡ false
unfolding in_m
in_m_none u p = refl

-- a row of M over 0 and the occurrences
pub row_m_states : (n : ℕ) (u : List ℕ) (p : ℕ) → row_m n u p ≡ filter (in_m u p) (upto 0 (suc n))
unfolding row_m in_m
row_m_states n u p =
    let z : suc n - 1 ≡ n = omega arith in
    let y : suc n - 0 ≡ suc n = omega arith in
    ap (λ k. filter (λ q. bit p (get_or u q 0)) (counted 1 k)) z
    ∙ filter_same (λ q. bit p (get_or u q 0)) (in_m u p) (counted 1 n)
    (λ q i. let (a, b) = counted_in_lem q 1 n i in sym (in_m_some u p q a))
    ∙ ap (λ k. filter (in_m u p) (counted 0 k)) (sym y)

-- bit k of the number of those below m that pass a test
pub number_bit : (f : ℕ → Bool) (m k : ℕ) → ((i : ℕ) → m ≤ i → i < 32 → f i ≡ false) → k < 32 → bit k (set_number 0 (filter f (upto 0 m))) ≡ f k
number_bit f m k h l =
    ⊎_elim
    (λ a. bit_above (m - 0) k (set_number 0 (filter f (upto 0 m))) (number_small f 0 m (omega arith)) (omega arith) ∙ sym (h k a l))
    (λ a. ap (λ i. bit i (set_number 0 (filter f (upto 0 m)))) (omega arith) ∙ bit_of f 0 m k (omega arith) (omega arith) a)
    (le_or_lt m k)

pub number_below_lem : (f : ℕ → Bool) (m : ℕ) → m ≤ 32 → set_number 0 (filter f (upto 0 m)) < 2 ^ 32
number_below_lem f m h =
    lt_of_lt_of_le (number_small f 0 m (omega arith)) (pow-le-pow_right {n = 2} (omega arith) {i = m - 0} {j = 32} (omega arith))

module _ (l n : ℕ) (few : n ≤ 31) (u : List ℕ) (good : GoodRing l n u) where
  -- bit q of row p of M
  pub M-row-bit : (p q : ℕ) → p < 32 → q < 32 → bit q (set_number 0 (row (ring_shown l n u).M p)) ≡ in_m u p q
  unfolding ring_shown set_number
  M-row-bit p q h k =
      ⊎_elim
      (λ a. ap (λ r. bit q (set_number 0 r)) (at_upto (row_m n u) [] (suc n) p (omega arith) ∙ row_m_states n u p)
      ∙ number_bit (in_m u p) (suc n) q
      (λ i b c. in_m_some u p i (omega arith) ∙ ap (bit p) (good.column_past i b c) ∙ bit_none p) k)
      (λ a. ap (λ r. bit q (set_number 0 r)) (past_upto (row_m n u) [] (suc n) p (omega arith)) ∙ bit_none q ∙ sym (outside q k a))
      (le_or_lt p n)
    where
      outside : (q : ℕ) → q < 32 → n < p → in_m u p q ≡ false
      outside zero b a = in_m_none u p
      outside (suc q) b a = in_m_some u p (suc q) (omega arith) ∙ (good.rows_past (suc q) p (omega arith) b a h).0

  pub M-row-small : (p : ℕ) → set_number 0 (row (ring_shown l n u).M p) < 2 ^ 32
  unfolding ring_shown set_number
  M-row-small p =
      ⊎_elim (λ a. rw (at_upto (row_m n u) [] (suc n) p (omega arith), row_m_states n u p) (number_below_lem (in_m u p) (suc n) (omega arith)))
      (λ a. rw (past_upto (row_m n u) [] (suc n) p (omega arith)) (pow_pos 32)) (le_or_lt p n)

  -- row 0 of N is empty, and each other row is the upper half of its column
  pub N-row-zero : set_number 0 (row (ring_shown l n u).N 0) ≡ 0
  unfolding ring_shown set_number row_n
  N-row-zero =
      ap (set_number 0) (at_upto (row_n n u) [] (suc n) 0 (omega arith) ∙ filter_none (in_n u 0) (upto 0 (suc n)) (λ p. in_n_none u p))

  pub N-row-number : (q : ℕ) → 1 ≤ q → q < 32 → set_number 0 (row (ring_shown l n u).N q) ≡ get_or u q 0 / 2 ^ 32
  unfolding ring_shown set_number row_n
  N-row-number q h k =
      ⊎_elim
      (λ a. ap (set_number 0) (at_upto (row_n n u) [] (suc n) q (omega arith))
      ∙ bit_ext 32 (set_number 0 (filter (in_n u q) (upto 0 (suc n)))) (get_or u q 0 / 2 ^ 32) (number_below_lem (in_n u q) (suc n) (omega arith))
      (shr_lt 32 32 (good.column_small q h k))
      (λ i b. number_bit (in_n u q) (suc n) i (λ j c d. in_n_some u q j h ∙ (good.rows_past q j h k c d).1) b
      ∙ in_n_some u q i h ∙ sym (bit_down 32 i (get_or u q 0))))
      (λ a. ap (set_number 0) (past_upto (row_n n u) [] (suc n) q (omega arith)) ∙ sym (ap (λ w. w / 2 ^ 32) (good.column_past q a k)))
      (le_or_lt q n)

  -- Z as the sheet has it
  pub flag_byte : cond (ring_shown l n u).Z 1 0 ≡ get_or u 33 0
  unfolding ring_shown
  flag_byte = go (get_or u 33 0) good.flag_small
    where
      go : (z : ℕ) → z < 2 → cond (not (eqb z 0)) 1 0 ≡ z
      go zero h = refl
      go (suc z) h = ap (λ b. cond (not b) 1 0) (ne_eqb (suc z) 0 (λ e. omega arith)) ∙ omega arith

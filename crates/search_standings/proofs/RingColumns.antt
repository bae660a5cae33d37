-- The bits of a column of a ring standing. One law carries the step: bit i of column q one letter on is set where q is read from some o whose
-- column has bit i, or is read first and bit i is among the pairs that open. Below 32 that is M, from 32 on N.
-- Assumes nothing.
use Prim.Native.Nat.{ℕ, suc, ◌+◌, ◌-◌, ◌%◌, ◌^◌, ◌≤◌, ◌<◌, min}
use native.Mathlib.Omega.{arith}
use mathlib.Core.Path.{◌≡◌, refl, sym, ◌∙◌, ap, ap₂}
use mathlib.Core.Logic.{⊎_elim}
use mathlib.Core.Bool.{false, cond, ◌&&◌, ◌||◌}
use mathlib.Core.List.{List}
use lib.Bits.{bit_or, or_lt}
use lib.ListN.{get_or, take, drop, length-take, get_or-eq_default}
use lib.Pow.{pow-lt}
use lib.Seq.{get_or-take, get_or-drop}
use borrow.Author.Tests.{eq-eqb, eqb-true}
use Rattle.kat.specs.Lists.{upto, some}
use Rattle.kat.proofs.Bools.{bool_ext, le_or_lt, true_not_false, and_left, and_right, and_both}
use Rattle.kat.proofs.Sets.{some_in, in_some, in_upto, upto_in}
use Rattle.claims.specs.Query.{bit}
use Rattle.claims.specs.Standings.{Letter}
use Rattle.bits.specs.Sets.{row, union_rows}
use Rattle.bits.proofs.Shifted.{bit_up, bit_up_below, bit_cut}
use Rattle.bits.proofs.Bit.{bit_none, bit-bit_or, bit_pow, bit_above}
use Rattle.bits.proofs.Members.{some_number}
use Rattle.bits.proofs.Rows.{bit_union}
use Rattle.standings.specs.Steps.{enders}
use Rattle.standings.specs.Steps.{leads, joined}
use Rattle.standings.proofs.Joined.{bit_cond, cond_small, joined_bit, joined_small, joined_none}
use Rattle.search_standings.specs.RingWords.{begin_column, opened, onward_column}
use Rattle.standings.proofs.Upto.{some_higher}

module _ (right : List ℕ) (l : Letter) where
  -- a prefix of one relation: bit p is set where q is read from p
  pub begin_bit : (n q p : ℕ) → n ≤ 31 → p ≤ n → bit p (begin_column right n l q) ≡ leads right l p q
  unfolding begin_column
  begin_bit n q p few h =
      joined_bit right l (λ o. 2 ^ o) q p (upto 0 (suc (min n 31)))
      ∙ bool_ext (some (λ o. leads right l o q && bit p (2 ^ o)) (upto 0 (suc (min n 31)))) (leads right l p q)
      (λ s. let (o, i, t) = some_in (λ o. leads right l o q && bit p (2 ^ o)) (upto 0 (suc (min n 31))) s in
      let e : p ≡ o = eqb-true p o (sym (bit_pow p o) ∙ and_right (leads right l o q) (bit p (2 ^ o)) t) in
      ap (λ k. leads right l k q) e ∙ and_left (leads right l o q) (bit p (2 ^ o)) t)
      (λ t. in_some (λ o. leads right l o q && bit p (2 ^ o)) (in_upto p 0 (suc (min n 31)) (omega arith) (omega arith))
      (and_both t (bit_pow p p ∙ eq-eqb p p refl)))

  pub begin_past : (n q i : ℕ) → n ≤ 31 → n < i → bit i (begin_column right n l q) ≡ false
  unfolding begin_column
  begin_past n q i few h =
      bit_above (suc n) i (begin_column right n l q)
      (joined_small right l (λ p. 2 ^ p) q (suc n) (upto 0 (suc (min n 31)))
      (λ o j. let (a, b) = upto_in o 0 (suc (min n 31)) j in pow-lt (omega arith)))
      h

  pub begin_small : (n q : ℕ) → begin_column right n l q < 2 ^ 32
  unfolding begin_column
  begin_small n q =
      joined_small right l (λ p. 2 ^ p) q 32 (upto 0 (suc (min n 31)))
      (λ o j. let (a, b) = upto_in o 0 (suc (min n 31)) j in pow-lt {j = 32} (omega arith))

  pub begin_none : (n q : ℕ) → ((o : ℕ) → leads right l o q ≡ false) → begin_column right n l q ≡ 0
  unfolding begin_column
  begin_none n q h = joined_none right l (λ p. 2 ^ p) q (upto 0 (suc (min n 31))) h

  -- a prefix one relation longer
  module _ (s : List ℕ) where
    pub onward_bit : (q i : ℕ) → bit i (onward_column right s l q)
        ≡ (some (λ o. leads right l o q && bit i (get_or s o 0)) (upto 1 32) || (leads right l 0 q && bit i (opened right s l.atom)))
    unfolding onward_column
    onward_bit q i =
        bit-bit_or i (joined right l (λ o. get_or s o 0) q (upto 1 32)) (cond (leads right l 0 q) (opened right s l.atom) 0)
        ∙ ap₂ ◌||◌ (joined_bit right l (λ o. get_or s o 0) q i (upto 1 32)) (bit_cond (leads right l 0 q) i (opened right s l.atom))

    pub onward_none : (q : ℕ) → ((o : ℕ) → leads right l o q ≡ false) → onward_column right s l q ≡ 0
    unfolding onward_column
    onward_none q h =
        ap₂ (λ m b. bit_or m (cond b (opened right s l.atom) 0)) (joined_none right l (λ o. get_or s o 0) q (upto 1 32) h) (h 0)

    pub opened_small : (a : ℕ) → opened right s a < 2 ^ 64
    unfolding opened
    opened_small a = omega arith

    pub onward_small : (q : ℕ) → ((o : ℕ) → 1 ≤ o → o < 32 → get_or s o 0 < 2 ^ 64) → onward_column right s l q < 2 ^ 64
    unfolding onward_column
    onward_small q h =
        or_lt 64 (joined right l (λ o. get_or s o 0) q (upto 1 32)) (cond (leads right l 0 q) (opened right s l.atom) 0)
        (joined_small right l (λ o. get_or s o 0) q 64 (upto 1 32) (λ o j. let (a, b) = upto_in o 1 32 j in h o a b))
        (cond_small (leads right l 0 q) 64 (opened right s l.atom) (opened_small l.atom))

-- the columns as rows
column_row : (s : List ℕ) (k : ℕ) → k < 31 → row (take 31 (drop 1 s)) k ≡ get_or s (suc k) 0
column_row s k h = get_or-take 31 (drop 1 s) k 0 h ∙ get_or-drop 1 s k 0 ∙ ap (λ i. get_or s i 0) (omega arith)

column_past : (s : List ℕ) (k : ℕ) → 31 ≤ k → row (take 31 (drop 1 s)) k ≡ 0
column_past s k h = get_or-eq_default (take 31 (drop 1 s)) 0 (omega (arith, length-take 31 (drop 1 s)))

-- the pairs that open: below bit 32 nothing, and from there on p where an occurrence of row p of M may end
module _ (right s : List ℕ) (a : ℕ) where
  pub opened_low : (i : ℕ) → i < 32 → bit i (opened right s a) ≡ false
  unfolding opened
  opened_low i h = bit_up_below 32 i (union_rows (take 31 (drop 1 s)) (enders right a) % 2 ^ 32) h

  pub opened_high : (p : ℕ) → p < 32
      → bit (32 + p) (opened right s a) ≡ some (λ q. bit (q - 1) (enders right a) && bit p (get_or s q 0)) (upto 1 32)
  unfolding opened
  opened_high p h =
      bit_up 32 p (union_rows (take 31 (drop 1 s)) (enders right a) % 2 ^ 32)
      ∙ bit_cut 32 p (union_rows (take 31 (drop 1 s)) (enders right a)) h
      ∙ bit_union (take 31 (drop 1 s)) (enders right a) p
      ∙ some_number (λ k. bit p (row (take 31 (drop 1 s)) k)) 0 64 (enders right a)
      ∙ some_higher (λ k. bit (k - 0) (enders right a) && bit p (row (take 31 (drop 1 s)) k))
      (λ q. bit (q - 1) (enders right a) && bit p (get_or s q 0)) 64 32
      (λ k i e. ⊎_elim
      (λ l. absurd (true_not_false (and_right (bit (k - 0) (enders right a)) _ e) (ap (bit p) (column_past s k l) ∙ bit_none p)))
      (λ l. (omega arith, sym (at k l) ∙ e)) (le_or_lt 31 k))
      (λ k i e. (omega arith, at k (omega arith) ∙ e))
    where
      at : (k : ℕ) → k < 31
          → (bit (k - 0) (enders right a) && bit p (row (take 31 (drop 1 s)) k)) ≡ (bit (suc k - 1) (enders right a) && bit p (get_or s (suc k) 0))
      at k l = ap₂ ◌&&◌ (ap (λ i. bit i (enders right a)) (omega arith)) (ap (bit p) (column_row s k l))

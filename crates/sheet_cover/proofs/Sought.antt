-- What the cover test seeks in the closed table of rows, found by meeting sets.
-- Assumes nothing.
use Prim.Native.Nat.{ℕ, suc, ◌+◌, ◌-◌, ◌/◌, ◌^◌, ◌≤◌, ◌<◌, min}
use native.Mathlib.Omega.{arith}
use mathlib.Core.Path.{◌≡◌, refl, sym, ◌∙◌, ap}
use mathlib.Core.Logic.{⊎_elim}
use mathlib.Core.Bool.{Bool, true, false, ◌&&◌, ◌||◌, and-true}
use mathlib.Core.List.{List}
use lib.Bits.{bit_and, and_le_l}
use lib.Dec.{eqb}
use borrow.Author.Tests.{ltb-true, lt-ltb, eqb-true, eq-eqb}
use Rattle.kat.specs.Lists.{upto, some}
use Rattle.kat.proofs.Bools.{true_not_false, or_cases, or_left, or_right, and_left, and_right, and_both}
use Rattle.kat.proofs.Sets.{in_some, in_upto}
use Rattle.claims.specs.Query.{bit}
use Rattle.bits.specs.Sets.{all_below, meets}
use Rattle.bits.proofs.Bit.{bit-bit_and}
use Rattle.bits.proofs.Members.{some_number}
use Rattle.bits.proofs.Rows.{bit_all, meets_some}
use Rattle.bits.proofs.Shifted.{bit_down}
use Rattle.standings.proofs.Upto.{upto_more, upto_none, some_range, some_higher}
use Rattle.sheet_standings.specs.RingCells.{row_n}
use Rattle.sheet_cover.specs.inner.Rounds.{ends_by, pairs_of, pairs_by}
use lib.ListN.{get_or}

-- a bit of a set cut below n
cut_bit : (s n i : ℕ) → n ≤ 64 → i < n → bit i (bit_and s (all_below 64 n)) ≡ bit i s
cut_bit s n i f h =
    bit-bit_and i s (all_below 64 n) ∙ ap (λ b. bit i s && b) (bit_all 64 n i ∙ lt-ltb i (min n 64) (omega arith)) ∙ and-true (bit i s)

cut_true : (s n i : ℕ) → bit i (bit_and s (all_below 64 n)) ≡ true → (i < n) × (bit i s ≡ true)
cut_true s n i e =
    let b : (bit i s && bit i (all_below 64 n)) ≡ true = sym (bit-bit_and i s (all_below 64 n)) ∙ e in
    let h : i < min n 64 = ltb-true i (min n 64) (sym (bit_all 64 n i) ∙ and_right (bit i s) (bit i (all_below 64 n)) b) in
    (omega arith, and_left (bit i s) (bit i (all_below 64 n)) b)

-- row w without bit 0, one place lower
half_bit : (k w : ℕ) → bit k (w / 2) ≡ bit (suc k) w
half_bit k w = bit_down 1 k w ∙ ap (λ j. bit j w) (omega arith)

-- the occurrences up to m of a set, and whether a row has one of them
pub turn_sought : (w e f m : ℕ) → m ≤ 31 → w < 2 ^ 64 → f ≡ all_below 64 m → meets (w / 2) (bit_and e f) ≡ ends_by w e m
unfolding ends_by
turn_sought w e f m few fits z =
    ap (λ g. meets (w / 2) (bit_and e g)) z
    ∙ meets_some 64 (w / 2) cut (omega arith)
    ∙ some_number (λ k. bit k cut) 0 64 (w / 2)
    ∙ some_higher (λ k. bit (k - 0) (w / 2) && bit k cut) (λ q. bit q w && bit (q - 1) e) 64 (suc m)
    (λ k i h. let (l, b) = cut_true e m k (and_right (bit (k - 0) (w / 2)) (bit k cut) h) in (
      omega arith,
      and_both (sym (half_bit k w) ∙ ap (λ j. bit j (w / 2)) (omega arith) ∙ and_left (bit (k - 0) (w / 2)) (bit k cut) h) (ap (λ j. bit j e) (omega arith) ∙ b),
    ))
    (λ k i h. (
      omega arith,
      and_both (ap (λ j. bit j (w / 2)) (omega arith) ∙ half_bit k w ∙ and_left (bit (suc k) w) (bit (suc k - 1) e) h)
          (cut_bit e m k (omega arith) (omega arith) ∙ ap (λ j. bit j e) (omega arith) ∙ and_right (bit (suc k) w) (bit (suc k - 1) e) h),
    ))
  where
    cut : ℕ
    cut = bit_and e (all_below 64 m)

-- the pairs of one row of N
module _ (w v q m pairs : ℕ) (in_range : q ≤ m) (few : m ≤ 31) (cut : pairs ≡ bit_and v (all_below 64 (m + 1))) where
  pair_bit : (p : ℕ) → p ≤ m → bit p pairs ≡ bit p v
  pair_bit p h = ap (bit p) cut ∙ cut_bit v (m + 1) p (omega arith) (omega arith)

  pub pair_found : bit q pairs ≡ true → true ≡ pairs_of w v q m
  unfolding pairs_of
  pair_found h =
      sym (in_some (λ p. bit p v && (eqb q p || bit p w)) (in_upto q 0 (suc m) (omega arith) (omega arith))
      (and_both (sym (pair_bit q in_range) ∙ h) (or_left (bit q w) (eq-eqb q q refl))))

  pub pair_sought : v < 2 ^ 64 → bit q pairs ≡ false → meets pairs w ≡ pairs_of w v q m
  unfolding pairs_of
  pair_sought fits h =
      meets_some 64 pairs w (omega (arith, cut, and_le_l v (all_below 64 (m + 1))))
      ∙ some_number (λ p. bit p w) 0 64 pairs
      ∙ some_range (λ p. bit (p - 0) pairs && bit p w) (λ p. bit p v && (eqb q p || bit p w)) 0 64 0 (suc m)
      (λ p a b e. let x : bit (p - 0) pairs ≡ true = and_left _ (bit p w) e in
      let z : p - 0 ≡ p = omega arith in
      let (l, y) = cut_true v (m + 1) (p - 0) (sym (ap (bit (p - 0)) cut) ∙ x) in (
        a,
        omega arith,
        and_both (ap (λ j. bit j v) (sym z) ∙ y) (or_right (eqb q p) (and_right (bit (p - 0) pairs) _ e)),
      ))
      (λ p a b e. let x : bit p pairs ≡ true = pair_bit p (omega arith) ∙ and_left (bit p v) _ e in
      let z : p - 0 ≡ p = omega arith in (
        a,
        omega arith,
        and_both (ap (λ j. bit j pairs) z ∙ x)
            (⊎_elim (λ i. absurd (true_not_false (ap (λ j. bit j pairs) (eqb-true q p i) ∙ x) h)) (λ i. i)
            (or_cases (eqb q p) (bit p w) (and_right (bit p v) _ e))),
      ))

-- one row after another
module _ (t s : List ℕ) (m : ℕ) where
  abbrev pub sought : ℕ → Bool
  sought q = pairs_of (get_or t q 0) (row_n s q) q m

  pub pairs_begin : some sought (upto 1 (suc m)) ≡ pairs_by t s m
  unfolding pairs_by
  pairs_begin = refl

  pub pairs_hit : (q : ℕ) → q ≤ m → sought q ≡ true → some sought (upto q (suc m)) ≡ true
  pairs_hit q h e = ap (some sought) (upto_more q (suc m) (omega arith)) ∙ ap (λ b. b || some sought (upto (q + 1) (suc m))) e

  pub pairs_miss : (q : ℕ) → q ≤ m → sought q ≡ false → some sought (upto (q + 1) (suc m)) ≡ some sought (upto q (suc m))
  pairs_miss q h e =
      sym (ap (some sought) (upto_more q (suc m) (omega arith)) ∙ ap (λ b. b || some sought (upto (q + 1) (suc m))) e)

  pub pairs_end : (q : ℕ) → m < q → some sought (upto q (suc m)) ≡ false
  pairs_end q h = ap (some sought) (upto_none q (suc m) (omega arith))

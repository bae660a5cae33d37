-- What the cover test seeks in the closed table of columns, found by walks of sets; and that it is what the definition seeks in the turns.
-- Assumes nothing.
use Prim.Native.Nat.{ℕ, zero, suc, ◌+◌, ◌-◌, ◌/◌, ◌^◌, ◌≤◌, ◌<◌, min}
use native.Mathlib.Numerals.{add-one}
use native.Mathlib.Omega.{arith}
use mathlib.Core.Path.{◌≡◌, refl, sym, ◌∙◌, ap, ap₂}
use mathlib.Core.Logic.{⊎_elim}
use mathlib.Core.Bool.{Bool, true, false, not, ◌&&◌, ◌||◌, and-true}
use mathlib.Core.List.{List}
use lib.Bits.{bit_and}
use lib.Dec.{eqb}
use lib.ListN.{length, get_or, set, take, drop, length-set}
use lib.Seq.{get_or-take, get_or-drop, get_or-set_same, get_or-set_other}
use borrow.Author.Tests.{ltb-true, lt-ltb, eqb-true, eq-eqb, ne_eqb}
use Rattle.kat.specs.Lists.{upto, some}
use Rattle.kat.specs.Closure.{Table, entry, closure}
use Rattle.kat.proofs.Bools.{true_not_false, or_cases, or_left, or_right, and_left, and_right, and_both}
use Rattle.kat.proofs.Sets.{in_some, in_upto, upto_in, some_same}
use Rattle.claims.specs.Query.{bit}
use Rattle.bits.specs.Sets.{all_below, row, any_member}
use Rattle.bits.proofs.Bit.{bit-bit_and, bit_none}
use Rattle.bits.proofs.Members.{some_number}
use Rattle.bits.proofs.Rows.{bit_all}
use Rattle.standings.specs.Steps.{enders}
use Rattle.search_standings.specs.RingWords.{in_m, in_n, turn_ends, pair_turns, ring_covered}
use Rattle.standings.proofs.Upto.{some_range, some_higher}
use Rattle.bits.proofs.Shifted.{bit_down}
use Rattle.search_standings.proofs.RingShown.{in_n_some}
use Rattle.search_standings.proofs.RingRows.{in_m_some, in_m_none}
use Rattle.search_cover.specs.inner.Rounds.{rounds, ends_by, pairs_of, pairs_by}
use Rattle.search_cover.proofs.Rounds.{rounds_closure}

-- a bit of a set cut below n
cut_bit : (s n i : ℕ) → n ≤ 64 → i < n → bit i (bit_and s (all_below 64 n)) ≡ bit i s
cut_bit s n i f h =
    bit-bit_and i s (all_below 64 n) ∙ ap (λ b. bit i s && b) (bit_all 64 n i ∙ lt-ltb i (min n 64) (omega arith)) ∙ and-true (bit i s)

cut_true : (s n i : ℕ) → bit i (bit_and s (all_below 64 n)) ≡ true → (i < n) × (bit i s ≡ true)
cut_true s n i e =
    let b : (bit i s && bit i (all_below 64 n)) ≡ true = sym (bit-bit_and i s (all_below 64 n)) ∙ e in
    let h : i < min n 64 = ltb-true i (min n 64) (sym (bit_all 64 n i) ∙ and_right (bit i s) (bit i (all_below 64 n)) b) in
    (omega arith, and_left (bit i s) (bit i (all_below 64 n)) b)

-- the columns as rows
column_row : (t : List ℕ) (k : ℕ) → k < 39 → row (take 39 (drop 1 t)) k ≡ get_or t (suc k) 0
column_row t k h = get_or-take 39 (drop 1 t) k 0 h ∙ get_or-drop 1 t k 0 ∙ ap (λ i. get_or t i 0) (omega arith)

-- the occurrences up to m of a set, and whether 0 leads to one of them
pub turn_sought : (t : List ℕ) (e f m : ℕ) → m ≤ 31 → f ≡ all_below 64 m → any_member (take 39 (drop 1 t)) (bit_and e f) 0 ≡ ends_by t e m
unfolding any_member ends_by
turn_sought t e f m few z =
    ap (λ g. any_member (take 39 (drop 1 t)) (bit_and e g) 0) z
    ∙ some_number (λ k. bit 0 (row (take 39 (drop 1 t)) k)) 0 64 (bit_and e (all_below 64 m))
    ∙ some_higher (λ k. bit (k - 0) (bit_and e (all_below 64 m)) && bit 0 (row (take 39 (drop 1 t)) k))
    (λ q. bit 0 (get_or t q 0) && bit (q - 1) e) 64 (suc m)
    (λ k i h. let (l, b) = cut_true e m (k - 0) (and_left _ (bit 0 (row (take 39 (drop 1 t)) k)) h) in (
      omega arith,
      and_both
          (ap (bit 0) (sym (column_row t k (omega arith))) ∙ and_right (bit (k - 0) (bit_and e (all_below 64 m))) _ h)
          (ap (λ j. bit j e) (omega arith) ∙ b),
    ))
    (λ k i h. (
      omega arith,
      and_both
          (cut_bit e m (k - 0) (omega arith) (omega arith) ∙ ap (λ j. bit j e) (omega arith) ∙ and_right (bit 0 (get_or t (suc k) 0)) (bit (suc k - 1) e) h)
          (ap (bit 0) (column_row t k (omega arith)) ∙ and_left (bit 0 (get_or t (suc k) 0)) (bit (suc k - 1) e) h),
    ))

-- the pairs of one column
module _ (t : List ℕ) (w q m pairs : ℕ) (in_range : q ≤ m) (few : m ≤ 31) (cut : pairs ≡ bit_and (w / 2 ^ 32) (all_below 64 (m + 1))) where
  pair_bit : (p : ℕ) → p ≤ m → bit p pairs ≡ bit (32 + p) w
  pair_bit p h = ap (bit p) cut ∙ cut_bit (w / 2 ^ 32) (m + 1) p (omega arith) (omega arith) ∙ bit_down 32 p w

  pub pair_found : bit q pairs ≡ true → true ≡ pairs_of t w q m
  unfolding pairs_of
  pair_found h =
      sym (in_some (λ p. bit (32 + p) w && (eqb q p || bit q (get_or t p 0))) (in_upto q 0 (suc m) (omega arith) (omega arith))
      (and_both (sym (pair_bit q in_range) ∙ h) (or_left (bit q (get_or t q 0)) (eq-eqb q q refl))))

  pub pair_sought : bit q pairs ≡ false → any_member t pairs q ≡ pairs_of t w q m
  unfolding any_member pairs_of
  pair_sought h =
      some_number (λ p. bit q (row t p)) 0 64 pairs
      ∙ some_range (λ p. bit (p - 0) pairs && bit q (row t p)) (λ p. bit (32 + p) w && (eqb q p || bit q (get_or t p 0))) 0 64 0 (suc m)
      (λ p a b e. let x : bit (p - 0) pairs ≡ true = and_left _ (bit q (row t p)) e in
      let z : p - 0 ≡ p = omega arith in
      let (l, y) = cut_true (w / 2 ^ 32) (m + 1) (p - 0) (sym (ap (bit (p - 0)) cut) ∙ x) in (
        a,
        omega arith,
        and_both (sym (pair_bit p (omega arith)) ∙ ap (λ j. bit j pairs) (sym z) ∙ x)
            (or_right (eqb q p) (and_right (bit (p - 0) pairs) _ e)),
      ))
      (λ p a b e. let x : bit p pairs ≡ true = pair_bit p (omega arith) ∙ and_left (bit (32 + p) w) _ e in
      let z : p - 0 ≡ p = omega arith in (
        a,
        omega arith,
        and_both (ap (λ j. bit j pairs) z ∙ x)
            (⊎_elim (λ i. absurd (true_not_false (ap (λ j. bit j pairs) (eqb-true q p i) ∙ x) h)) (λ i. i)
            (or_cases (eqb q p) (bit q (get_or t p 0)) (and_right (bit (32 + p) w) _ e))),
      ))

-- one column after another
module _ (t s : List ℕ) (m : ℕ) where
  abbrev pub sought : ℕ → Bool
  sought q = pairs_of t (get_or s q 0) q m

-- the closed columns are the turns
module _ (right u : List ℕ) (full : length u ≡ 40) where
  abbrev s : List ℕ
  s = take 34 u

  pub covered_z : (n : ℕ) → (get_or u 33 0 ≡ 0 → ⊥) → true ≡ ring_covered right n s
  unfolding ring_covered
  covered_z n h =
      let turns : Table = closure (suc (min n 31)) (in_m s) in
      sym (ap (λ b. not b || turn_ends right (min n 31) s turns || pair_turns (min n 31) s turns)
      (ap (λ w. eqb w 0) (get_or-take 34 u 33 0 (omega arith)) ∙ ne_eqb (get_or u 33 0) 0 h))

  module _ (m : ℕ) (few : m ≤ 31) where
    abbrev closed : List ℕ
    closed = rounds (set u 0 0) (suc m) (suc m)

    abbrev turns : Table
    turns = closure (suc m) (in_m s)

    start_bit : (x y : ℕ) → x < suc m → y < suc m → bit x (get_or (set u 0 0) y 0) ≡ in_m s x y
    start_bit x zero a b = ap (bit x) (get_or-set_same u 0 0 0 (omega arith)) ∙ bit_none x ∙ sym (in_m_none s x)
    start_bit x (suc y) a b =
        ap (bit x) (get_or-set_other u 0 (suc y) 0 0 (λ e. omega arith) ∙ sym (get_or-take 34 u (suc y) 0 (omega arith)))
        ∙ sym (in_m_some s x (suc y) (omega arith))

    turn_bit : (x y : ℕ) → x < suc m → y < suc m → bit x (get_or closed y 0) ≡ entry turns x y
    turn_bit x y a b =
        rounds_closure (set u 0 0) (suc m) (omega (arith, length-set u 0 0)) (in_m s) start_bit x y a b

    ends_same : ends_by closed (enders right (get_or s 32 0)) m ≡ turn_ends right m s turns
    unfolding ends_by turn_ends
    ends_same =
        some_same (λ q. bit 0 (get_or closed q 0) && bit (q - 1) (enders right (get_or s 32 0)))
        (λ q. entry turns 0 q && bit (q - 1) (enders right (get_or s 32 0))) (upto 1 (suc m))
        (λ q i. let (a, b) = upto_in q 1 (suc m) i in
        ap (λ x. x && bit (q - 1) (enders right (get_or s 32 0))) (turn_bit 0 q (omega arith) b))

    pairs_same : pairs_by closed s m ≡ pair_turns m s turns
    unfolding pairs_by pairs_of pair_turns
    pairs_same =
        some_same (λ q. some (λ p. bit (32 + p) (get_or s q 0) && (eqb q p || bit q (get_or closed p 0))) (upto 0 (suc m)))
        (λ q. some (λ p. in_n s q p && (eqb q p || entry turns q p)) (upto 0 (suc m))) (upto 1 (suc m))
        (λ q i. let (a, b) = upto_in q 1 (suc m) i in
        some_same (λ p. bit (32 + p) (get_or s q 0) && (eqb q p || bit q (get_or closed p 0)))
        (λ p. in_n s q p && (eqb q p || entry turns q p)) (upto 0 (suc m))
        (λ p j. let (c, d) = upto_in p 0 (suc m) j in
        ap₂ (λ x y. x && (eqb q p || y)) (sym (in_n_some s q p a)) (turn_bit q p b d)))

    pub covered_turns : (n : ℕ) (b : Bool) (t : List ℕ) → m ≡ min n 31 → get_or u 33 0 ≡ 0 → t ≡ rounds (set u 0 0) (m + 1) (m + 1)
        → b ≡ (ends_by t (enders right (get_or s 32 0)) m || pairs_by t s m) → b ≡ ring_covered right n s
    unfolding ring_covered
    covered_turns n b t em ez et eb =
        let e : t ≡ closed = et ∙ ap (λ h. rounds (set u 0 0) h h) (add-one m) in
        eb ∙ ap (λ c. ends_by c (enders right (get_or s 32 0)) m || pairs_by c s m) e
        ∙ ap₂ ◌||◌ ends_same pairs_same
        ∙ ap (λ z. not (eqb z 0) || turn_ends right m s turns || pair_turns m s turns) (sym (get_or-take 34 u 33 0 (omega arith) ∙ ez))
        ∙ ap (λ k. not (eqb (get_or s 33 0) 0) || turn_ends right k s (closure (suc k) (in_m s)) || pair_turns k s (closure (suc k) (in_m s))) em

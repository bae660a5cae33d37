-- What the test of a ring standing says, one fact for each part: the first atom, Z, P, and each row of M and N. (Document 01, "Sheet and graph
-- bytes".) A row past the last right occurrence is empty, row 0 of N too, and no row of M has bit 0.
-- Assumes nothing.
use Prim.Native.Nat.{ℕ, zero, suc, ◌%◌, ◌^◌, ◌≤◌, ◌<◌}
use native.Mathlib.Omega.{arith}
use mathlib.Core.Path.{◌≡◌, refl, sym, ◌∙◌, ap, subst}
use mathlib.Core.Logic.{⊎_elim}
use mathlib.Core.Bool.{Bool, true, false, cond, ◌&&◌}
use mathlib.Core.List.{List}
use lib.Dec.{eqb, ltb, leb}
use lib.ListN.{length, take, drop}
use lib.Pow.{pow_pos}
use borrow.Author.Tests.{eqb-true, ltb-true, leb-true, eq-eqb, lt-ltb, le-leb, lt-leb}
use Rattle.kat.proofs.Bools.{le_or_lt, and_left, and_right, and_both}
use Rattle.claims.specs.SheetReading.{rows_pass, row_of_m, row_of_n}
use Rattle.memory.specs.Memory.{words}
use Rattle.sheet_standings.specs.Layout.{wide}
use Rattle.sheet_standings.specs.RingCells.{first_in, flag_in, row_m, row_n, ring_fits}
use Rattle.sheet_standings.proofs.RingRows.{rows_m_lem, rows_n_lem, words_pass, word_passes}

-- the first atom, Z, P and the rows are as they may be, for l and r occurrences and so many atoms
pub record RingFacts (atoms l r : ℕ) (s : List ℕ) : Type 0 where
  pub first_low : first_in s < atoms
  pub flag_low : flag_in s ≤ 1
  pub P-small : wide s 1 < 2 ^ l
  pub M-small : (p : ℕ) → p < 32 → row_m s p < 2 ^ suc r
  pub M-even : (p : ℕ) → p < 32 → row_m s p % 2 ≡ 0
  pub M-past : (p : ℕ) → r < p → p < 32 → row_m s p ≡ 0
  pub N-small : (q : ℕ) → q < 32 → row_n s q < 2 ^ suc r
  pub N-none : row_n s 0 ≡ 0
  pub N-past : (q : ℕ) → r < q → q < 32 → row_n s q ≡ 0

module _ (r : ℕ) where
  -- a row of M
  row_of_m_lem : (p m : ℕ) → m < 2 ^ suc r → m % 2 ≡ 0 → (r < p → m ≡ 0) → row_of_m r p m ≡ true
  unfolding row_of_m
  row_of_m_lem p m a b c =
      ⊎_elim
      (λ h. ap (λ t. cond t (ltb m (2 ^ suc r) && eqb (m % 2) 0) (eqb m 0)) (le-leb p r h)
      ∙ and_both (lt-ltb m (2 ^ suc r) a) (eq-eqb (m % 2) 0 b))
      (λ h. ap (λ t. cond t (ltb m (2 ^ suc r) && eqb (m % 2) 0) (eqb m 0)) (lt-leb p r h) ∙ eq-eqb m 0 (c h)) (le_or_lt p r)

  of_row_m : (p m : ℕ) → row_of_m r p m ≡ true → (m < 2 ^ suc r) × (m % 2 ≡ 0) × (r < p → m ≡ 0)
  unfolding row_of_m
  of_row_m p m e =
      ⊎_elim
      (λ h. let t : (ltb m (2 ^ suc r) && eqb (m % 2) 0) ≡ true =
      sym (ap (λ t. cond t (ltb m (2 ^ suc r) && eqb (m % 2) 0) (eqb m 0)) (le-leb p r h)) ∙ e in (
        ltb-true m (2 ^ suc r) (and_left (ltb m (2 ^ suc r)) (eqb (m % 2) 0) t),
        eqb-true (m % 2) 0 (and_right (ltb m (2 ^ suc r)) (eqb (m % 2) 0) t),
        λ k. absurd (omega arith),
      ))
      (λ h. let z : m ≡ 0 =
      eqb-true m 0 (sym (ap (λ t. cond t (ltb m (2 ^ suc r) && eqb (m % 2) 0) (eqb m 0)) (lt-leb p r h)) ∙ e) in
      (subst (λ k. k < 2 ^ suc r) (sym z) (pow_pos (suc r)), ap (λ k. k % 2) z, λ k. z)) (le_or_lt p r)

  -- a row of N
  row_of_n_lem : (q m : ℕ) → m < 2 ^ suc r → (q ≡ 0 → m ≡ 0) → (r < q → m ≡ 0) → row_of_n r q m ≡ true
  unfolding row_of_n
  row_of_n_lem zero m a b c = eq-eqb m 0 (b refl)
  row_of_n_lem (suc q) m a b c =
      ⊎_elim
      (λ h. ap (λ t. cond t (ltb m (2 ^ suc r)) (eqb m 0)) (and_both (le-leb 1 (suc q) (omega arith)) (le-leb (suc q) r h))
      ∙ lt-ltb m (2 ^ suc r) a)
      (λ h. past (leb 1 (suc q)) (lt-leb (suc q) r h) (c h)) (le_or_lt (suc q) r)
    where
      past : (b : Bool) → leb (suc q) r ≡ false → m ≡ 0 → cond (b && leb (suc q) r) (ltb m (2 ^ suc r)) (eqb m 0) ≡ true
      past true e z = ap (λ t. cond t (ltb m (2 ^ suc r)) (eqb m 0)) e ∙ eq-eqb m 0 z
      past false e z = eq-eqb m 0 z

  of_row_n : (q m : ℕ) → row_of_n r q m ≡ true → (m < 2 ^ suc r) × (q ≡ 0 → m ≡ 0) × (r < q → m ≡ 0)
  unfolding row_of_n
  of_row_n zero m e =
      let z : m ≡ 0 = eqb-true m 0 e in
      (subst (λ k. k < 2 ^ suc r) (sym z) (pow_pos (suc r)), λ k. z, λ k. z)
  of_row_n (suc q) m e = go (leb 1 (suc q)) (leb (suc q) r) refl e
    where
      none : m ≡ 0 → (m < 2 ^ suc r) × (suc q ≡ 0 → m ≡ 0) × (r < suc q → m ≡ 0)
      none z = (subst (λ k. k < 2 ^ suc r) (sym z) (pow_pos (suc r)), λ k. z, λ k. z)

      go : (a b : Bool) → leb (suc q) r ≡ b → cond (a && b) (ltb m (2 ^ suc r)) (eqb m 0) ≡ true
          → (m < 2 ^ suc r) × (suc q ≡ 0 → m ≡ 0) × (r < suc q → m ≡ 0)
      go true true h t =
          let k : suc q ≤ r = leb-true (suc q) r h in
          (ltb-true m (2 ^ suc r) t, λ z. absurd (omega arith), λ z. absurd (omega arith))
      go true false h t = none (eqb-true m 0 t)
      go false b h t = none (eqb-true m 0 t)

module _ (atoms l r : ℕ) (s : List ℕ) (size : length s ≡ 67) where
  abbrev of_m : Bool
  of_m = rows_pass (row_of_m r) 0 (take 32 (drop 3 s))

  abbrev of_n : Bool
  of_n = rows_pass (row_of_n r) 0 (take 32 (drop 35 s))

  pub facts_fit : RingFacts atoms l r s → ring_fits atoms l r s ≡ true
  unfolding ring_fits
  facts_fit f =
      let m : of_m ≡ true = ap (rows_pass (row_of_m r) 0) (rows_m_lem s size)
      ∙ words_pass (row_of_m r) 32 (row_m s) (λ p h. row_of_m_lem r p (row_m s p) (f.M-small p h) (f.M-even p h) (λ k. f.M-past p k h)) in
      let n : of_n ≡ true = ap (rows_pass (row_of_n r) 0) (rows_n_lem s size)
      ∙ words_pass (row_of_n r) 32 (row_n s)
      (λ q h. row_of_n_lem r q (row_n s q) (f.N-small q h) (λ z. ap (row_n s) z ∙ f.N-none) (λ k. f.N-past q k h)) in
      and_both (and_both (and_both (and_both (lt-ltb (first_in s) atoms f.first_low) (le-leb (flag_in s) 1 f.flag_low))
      (lt-ltb (wide s 1) (2 ^ l) f.P-small)) m) n

  pub fit_facts : ring_fits atoms l r s ≡ true → RingFacts atoms l r s
  unfolding ring_fits
  fit_facts e =
      let a : Bool = ltb (first_in s) atoms in
      let b : Bool = leb (flag_in s) 1 in
      let c : Bool = ltb (wide s 1) (2 ^ l) in
      let e₁ : (a && b && c && of_m) ≡ true = and_left (a && b && c && of_m) of_n e in
      let e₂ : (a && b && c) ≡ true = and_left (a && b && c) of_m e₁ in
      let e₃ : (a && b) ≡ true = and_left (a && b) c e₂ in
      let m : rows_pass (row_of_m r) 0 (words 32 (row_m s)) ≡ true =
      sym (ap (rows_pass (row_of_m r) 0) (rows_m_lem s size)) ∙ and_right (a && b && c) of_m e₁ in
      let n : rows_pass (row_of_n r) 0 (words 32 (row_n s)) ≡ true =
      sym (ap (rows_pass (row_of_n r) 0) (rows_n_lem s size)) ∙ and_right (a && b && c && of_m) of_n e in
      record {
        first_low = ltb-true (first_in s) atoms (and_left a b e₃);
        flag_low = leb-true (flag_in s) 1 (and_right a b e₃);
        P-small = ltb-true (wide s 1) (2 ^ l) (and_right (a && b) c e₂);
        M-small = λ p h. (of_row_m r p (row_m s p) (word_passes (row_of_m r) 32 (row_m s) m p h)).0;
        M-even = λ p h. (of_row_m r p (row_m s p) (word_passes (row_of_m r) 32 (row_m s) m p h)).1;
        M-past = λ p k h. (of_row_m r p (row_m s p) (word_passes (row_of_m r) 32 (row_m s) m p h)).2 k;
        N-small = λ q h. (of_row_n r q (row_n s q) (word_passes (row_of_n r) 32 (row_n s) n q h)).0;
        N-none = (of_row_n r 0 (row_n s 0) (word_passes (row_of_n r) 32 (row_n s) n 0 (omega arith))).1 refl;
        N-past = λ q k h. (of_row_n r q (row_n s q) (word_passes (row_of_n r) 32 (row_n s) n q h)).2 k;
      }

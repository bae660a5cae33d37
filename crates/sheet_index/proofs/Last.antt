-- The last number below n that passes a test, as a place: which it is, that a weaker test loses nothing that a stronger one finds, and
-- that there is one exactly where some number passes.
-- Assumes nothing.
use Prim.Native.Nat.{ℕ, zero, suc, ◌≤◌, ◌<◌}
use native.Mathlib.Omega.{arith}
use mathlib.Core.Path.{◌≡◌, refl, sym, ◌∙◌, ap, subst}
use mathlib.Core.Logic.{⊎_elim}
use mathlib.Core.Bool.{Bool, true, false, not, cond}
use lib.Dec.{eqb}
use borrow.Author.Tests.{eqb-false, not-true, ne_eqb}
use Rattle.kat.specs.Lists.{upto, some}
use Rattle.kat.proofs.Bools.{lt_or_le, bool_ext, true_not_false, false_not_true}
use Rattle.kat.proofs.Sets.{some_in, in_some, in_upto, upto_in}
use Rattle.sheet_index.specs.Index.{last_where}

module _ (p : ℕ → Bool) where
  pub last_hit : (n : ℕ) → p n ≡ true → last_where p (suc n) ≡ suc n
  unfolding last_where
  last_hit n e = ap (λ b. cond b (suc n) (last_where p n)) e

  pub last_miss : (n : ℕ) → p n ≡ false → last_where p (suc n) ≡ last_where p n
  unfolding last_where
  last_miss n e = ap (λ b. cond b (suc n) (last_where p n)) e

  pub last_below : (n : ℕ) → last_where p n ≤ n
  unfolding last_where
  last_below zero = omega arith
  last_below (suc n) = go (p n) (last_below n)
    where
      go : (b : Bool) → last_where p n ≤ n → cond b (suc n) (last_where p n) ≤ suc n
      go true h = omega arith
      go false h = omega arith

  -- the number of a place passes
  pub last_passes : (n i : ℕ) → last_where p n ≡ suc i → (i < n) × (p i ≡ true)
  unfolding last_where
  last_passes zero i e = absurd (omega arith)
  last_passes (suc n) i e = go (p n) refl e (last_passes n i)
    where
      go : (b : Bool) → p n ≡ b → cond b (suc n) (last_where p n) ≡ suc i → (last_where p n ≡ suc i → (i < n) × (p i ≡ true))
          → (i < suc n) × (p i ≡ true)
      go true t z more = let same : n ≡ i = omega arith in (omega arith, subst (λ k. p k ≡ true) same t)
      go false t z more = let found = more z in (omega (arith, found.0), found.1)

  -- a number that passes is not behind the last
  pub last_above : (n i : ℕ) → i < n → p i ≡ true → i < last_where p n
  unfolding last_where
  last_above zero i h t = absurd (omega arith)
  last_above (suc n) i h t = go (p n) refl (last_above n i)
    where
      before : (i ≡ n → ⊥) → i < n
      before d = ⊎_elim (λ l. l) (λ l. absurd (d (omega arith))) (lt_or_le i n)

      go : (b : Bool) → p n ≡ b → (i < n → p i ≡ true → i < last_where p n) → i < cond b (suc n) (last_where p n)
      go true s more = h
      go false s more = more (before (λ e. true_not_false (subst (λ k. p k ≡ true) e t) s)) t

  -- there is one where some number passes
  pub last_some : (n : ℕ) → not (eqb (last_where p n) 0) ≡ some p (upto 0 n)
  last_some n =
      bool_ext (not (eqb (last_where p n) 0)) (some p (upto 0 n))
      (λ e. go (last_where p n) refl (eqb-false (last_where p n) 0 (not-true (eqb (last_where p n) 0) e)))
      (λ e.
      let (i, m, t) = some_in p (upto 0 n) e in
      let (a, b) = upto_in i 0 n m in
      false_not_true (ne_eqb (last_where p n) 0 (λ z. above i (last_above n i b t) z)))
    where
      go : (k : ℕ) → last_where p n ≡ k → (k ≡ 0 → ⊥) → some p (upto 0 n) ≡ true
      go zero e d = absurd (d refl)
      go (suc i) e d = let (a, b) = last_passes n i e in in_some p (in_upto i 0 n (omega arith) a) b

      above : (i : ℕ) → i < last_where p n → last_where p n ≡ 0 → ⊥
      above i h z = omega arith

-- tests that agree below n
pub last_same : (p q : ℕ → Bool) (n : ℕ) → ((i : ℕ) → i < n → p i ≡ q i) → last_where p n ≡ last_where q n
unfolding last_where
last_same p q zero h = refl
last_same p q (suc n) h =
    ap (λ b. cond b (suc n) (last_where p n)) (h n (omega arith))
    ∙ ap (cond (q n) (suc n)) (last_same p q n (λ i l. h i (omega arith)))

-- what passes q passes p: the last for q is no later than the last for p
pub last_among : (p q : ℕ → Bool) → ((i : ℕ) → q i ≡ true → p i ≡ true) → (n : ℕ)
    → last_where q (last_where p n) ≡ last_where q n
unfolding last_where
last_among p q h zero = refl
last_among p q h (suc n) = go (p n) refl (last_among p q h n)
  where
    miss : (b : Bool) → q n ≡ b → p n ≡ false → q n ≡ false
    miss true e f = absurd (true_not_false (h n e) f)
    miss false e f = e

    go : (b : Bool) → p n ≡ b → last_where q (last_where p n) ≡ last_where q n
        → last_where q (cond b (suc n) (last_where p n)) ≡ last_where q (suc n)
    go true e more = refl
    go false e more = more ∙ sym (last_miss q n (miss (q n) refl e))

-- Words joined into the rows of N: one turn of the walk of a set, one row sent on, and what stands in each row in the end. Each law compares
-- two lists of 32 rows, row by row.
-- Assumes nothing.
use Prim.Native.Nat.{ℕ, ◌+◌, ◌-◌, ◌≤◌, ◌<◌}
use native.Mathlib.Omega.{arith}
use mathlib.Core.Path.{◌≡◌, refl, sym, ◌∙◌, ap, ap₂}
use mathlib.Core.Logic.{⊎_elim}
use mathlib.Core.Bool.{Bool, true, false, cond, not, ◌&&◌, and-true, and-false}
use mathlib.Core.List.{List, [], ◌∷◌}
use lib.Bits.{bit_and, bit_or, or_zero_r}
use lib.Count.{count_trailing_zeros}
use lib.Dec.{eqb}
use lib.ListN.{length, get_or, get_or-replicate}
use lib.Seq.{get_or-set_same, get_or-set_other}
use borrow.Author.Tests.{eq-eqb, ne_eqb}
use Rattle.kat.specs.Lists.{In, upto}
use Rattle.kat.specs.Lists.In.{here, there}
use Rattle.kat.proofs.Sets.{upto_in}
use Rattle.claims.specs.Query.{bit}
use Rattle.claims.specs.Standings.{Letter}
use Rattle.memory.specs.Memory.{words, zeros}
use Rattle.memory.proofs.Words.{words_at_lem, words_ext, words_same, same_or_not}
use Rattle.bits.proofs.Bit.{bit_none, or_assoc}
use Rattle.bits.proofs.Lowest.{Lowest}
use Rattle.standings.specs.Steps.{step_from, leads, joined}
use Rattle.standings.proofs.Upto.{upto_more}
use Rattle.sheet_pairs.specs.inner.Rows.{row_joined, row_of, pushed, spread_over}

-- rows of a set: that of the lowest member, and without it the others
module _ {s : ℕ} (low : Lowest 64 s) where
  abbrev least : ℕ
  least = count_trailing_zeros 64 s

  row_lowest : row_of s (least + 1) ≡ true
  unfolding row_of
  row_lowest =
      let z : least + 1 - 1 ≡ least = omega arith in
      ap₂ (λ a b. not a && b) (ne_eqb (least + 1) 0 (λ e. omega arith)) (ap (λ j. bit j s) z ∙ low.set)

  row_cleared : row_of (bit_and s (s - 1)) (least + 1) ≡ false
  unfolding row_of
  row_cleared =
      let z : least + 1 - 1 ≡ least = omega arith in
      ap (λ b. not (eqb (least + 1) 0) && b)
      (ap (λ j. bit j (bit_and s (s - 1))) z ∙ low.cleared least ∙ ap (λ b. bit least s && not b) (eq-eqb least least refl)
      ∙ and-false (bit least s))
      ∙ and-false (not (eqb (least + 1) 0))

  row_kept : (i : ℕ) → (i ≡ least + 1 → ⊥) → row_of (bit_and s (s - 1)) i ≡ row_of s i
  unfolding row_of
  row_kept i n =
      ⊎_elim (λ z. ap₂ (λ a b. not a && b) (eq-eqb i 0 z) refl ∙ sym (ap₂ (λ a b. not a && b) (eq-eqb i 0 z) refl))
      (λ z. ap (λ b. not (eqb i 0) && b)
      (low.cleared (i - 1) ∙ ap (λ b. bit (i - 1) s && not b) (ne_eqb (i - 1) least (λ d. n (omega arith))) ∙ and-true (bit (i - 1) s)))
      (same_or_not i 0)

-- words joined into the rows of a set
module _ (to : List ℕ) (w : ℕ) where
  abbrev pushed_at : ℕ → ℕ → ℕ
  pushed_at s i = bit_or (get_or to i 0) (cond (row_of s i) w 0)

  pub pushed_none : (s : ℕ) → length to ≡ 32 → w ≡ 0 → to ≡ pushed to s w
  unfolding pushed
  pushed_none s e z = words_ext to 32 (pushed_at s) e (λ i h. sym (at i (row_of s i)))
    where
      at : (i : ℕ) (b : Bool) → bit_or (get_or to i 0) (cond b w 0) ≡ get_or to i 0
      at i true = ap (bit_or (get_or to i 0)) z ∙ or_zero_r (get_or to i 0)
      at i false = or_zero_r (get_or to i 0)

  pub pushed_end : (s : ℕ) → length to ≡ 32 → s ≡ 0 → pushed to s w ≡ to
  unfolding pushed row_of
  pushed_end s e z =
      sym (words_ext to 32 (pushed_at s) e
      (λ i h. sym (ap (λ b. bit_or (get_or to i 0) (cond b w 0))
      (ap (λ b. not (eqb i 0) && b) (ap (bit (i - 1)) z ∙ bit_none (i - 1)) ∙ and-false (not (eqb i 0)))
      ∙ or_zero_r (get_or to i 0))))

  -- the row of the lowest member of s is joined, and then the rest
  pub pushed_more : {s : ℕ} → Lowest 64 s → length to ≡ 32
      → pushed (row_joined to (count_trailing_zeros 64 s + 1) w) (bit_and s (s - 1)) w ≡ pushed to s w
  unfolding pushed row_joined
  pushed_more {s} low e =
      words_same 32 32 _ (pushed_at s) refl
      (λ i h. ⊎_elim
      (λ z. ap (λ j. bit_or (get_or (row_joined to k w) j 0) (cond (row_of rest j) w 0)) z
      ∙ ap₂ (λ x b. bit_or x (cond b w 0)) (get_or-set_same to k (bit_or (get_or to k 0) w) 0 (omega arith)) (row_cleared low)
      ∙ or_zero_r (bit_or (get_or to k 0) w)
      ∙ sym (ap (λ j. pushed_at s j) z ∙ ap (λ b. bit_or (get_or to k 0) (cond b w 0)) (row_lowest low)))
      (λ z. ap₂ (λ x b. bit_or x (cond b w 0)) (get_or-set_other to k i (bit_or (get_or to k 0) w) 0 z) (row_kept low i z))
      (same_or_not i k))
    where
      k : ℕ
      k = count_trailing_zeros 64 s + 1

      rest : ℕ
      rest = bit_and s (s - 1)

module _ (right : List ℕ) (l : Letter) where
  -- what is joined depends on the numbers of the list alone
  joined_same : (v w : ℕ → ℕ) (q : ℕ) (os : List ℕ) → ((o : ℕ) → In o os → v o ≡ w o) → joined right l v q os ≡ joined right l w q os
  unfolding joined
  joined_same v w q [] h = refl
  joined_same v w q (o ∷ os) h =
      ap₂ (λ x y. bit_or (cond (leads right l o q) x 0) y) (h o (here refl)) (joined_same v w q os (λ p i. h p (there i)))

  module _ (w : ℕ → ℕ) where
    abbrev spread_at : List ℕ → List ℕ → ℕ → ℕ
    spread_at os to i = bit_or (get_or to i 0) (cond (eqb i 0) 0 (joined right l w i os))

    pub spread_end : (os to : List ℕ) → length to ≡ 32 → os ≡ [] → spread_over right l w os to ≡ to
    unfolding spread_over joined
    spread_end os to e z =
        ap (λ l. words 32 (spread_at l to)) z
        ∙ sym (words_ext to 32 (spread_at [] to) e (λ i h. sym (ap (bit_or (get_or to i 0)) (nothing (eqb i 0)) ∙ or_zero_r (get_or to i 0))))
      where
        nothing : (b : Bool) → ◌≡◌ {A = ℕ} (cond b 0 0) 0
        nothing true = refl
        nothing false = refl

    -- one sent on, and then the rest
    pub spread_cons : (o : ℕ) (os to : List ℕ)
        → spread_over right l w os (pushed to (step_from right o l.atom l.relation) (w o)) ≡ spread_over right l w (o ∷ os) to
    unfolding spread_over joined pushed row_of leads
    spread_cons o os to =
        words_same 32 32 _ (spread_at (o ∷ os) to) refl
        (λ i h. ap (λ x. bit_or x (cond (eqb i 0) 0 (joined right l w i os))) (words_at_lem 32 _ i h) ∙ at i (eqb i 0))
      where
        at : (i : ℕ) (b : Bool)
            → bit_or (bit_or (get_or to i 0) (cond (not b && leads right l o i) (w o) 0)) (cond b 0 (joined right l w i os))
            ≡ bit_or (get_or to i 0) (cond b 0 (bit_or (cond (leads right l o i) (w o) 0) (joined right l w i os)))
        at i false = or_assoc (get_or to i 0) (cond (leads right l o i) (w o) 0) (joined right l w i os)
        at i true = ap (λ x. bit_or x 0) (or_zero_r (get_or to i 0))

    pub spread_more : (o e : ℕ) (to : List ℕ) (v : ℕ) → o < e → v ≡ w o
        → spread_over right l w (upto (o + 1) e) (pushed to (step_from right o l.atom l.relation) v) ≡ spread_over right l w (upto o e) to
    spread_more o e to v h z =
        ap (λ x. spread_over right l w (upto (o + 1) e) (pushed to (step_from right o l.atom l.relation) x)) z
        ∙ spread_cons o (upto (o + 1) e) to ∙ ap (λ os. spread_over right l w os to) (sym (upto_more o e h))

    -- into empty rows
    pub spread_clear : (os : List ℕ) → spread_over right l w os (zeros 32) ≡ words 32 (λ q. cond (eqb q 0) 0 (joined right l w q os))
    unfolding spread_over zeros
    spread_clear os =
        words_same 32 32 _ (λ q. cond (eqb q 0) 0 (joined right l w q os)) refl
        (λ q h. ap (λ x. bit_or x (cond (eqb q 0) 0 (joined right l w q os))) (get_or-replicate 32 q 0 0 h))

  spread_same : (v w : ℕ → ℕ) (u : List ℕ) → ((o : ℕ) → 1 ≤ o → v o ≡ w o)
      → spread_over right l v (upto 1 32) u ≡ spread_over right l w (upto 1 32) u
  unfolding spread_over
  spread_same v w u h =
      words_same 32 32 (spread_at v (upto 1 32) u) (spread_at w (upto 1 32) u) refl
      (λ i k. ap (λ x. bit_or (get_or u i 0) (cond (eqb i 0) 0 x)) (joined_same v w i (upto 1 32) (λ o j. h o (upto_in o 1 32 j).0)))

  -- what opens, and then the rows
  pub spread_all : (v w : ℕ → ℕ) (fresh : ℕ) (to : List ℕ) → fresh ≡ w 0 → ((o : ℕ) → 1 ≤ o → v o ≡ w o)
      → spread_over right l v (upto 1 32) (pushed to (step_from right 0 l.atom l.relation) fresh) ≡ spread_over right l w (upto 0 32) to
  spread_all v w fresh to z h =
      ap (λ x. spread_over right l v (upto 1 32) (pushed to (step_from right 0 l.atom l.relation) x)) z
      ∙ spread_same v w (pushed to (step_from right 0 l.atom l.relation) (w 0)) h ∙ spread_cons w 0 (upto 1 32) to

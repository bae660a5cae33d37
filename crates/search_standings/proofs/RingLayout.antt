-- The 34 words of a ring standing: how many they are, what stands at each place, and that words which agree at each place are the same.
-- Assumes nothing.
use Prim.Native.Nat.{ℕ, zero, suc, ◌+◌, ◌-◌, ◌≤◌, ◌<◌}
use native.Mathlib.Omega.{arith}
use mathlib.Core.Path.{◌≡◌, refl, sym, ◌∙◌, ap}
use mathlib.Core.Logic.{⊎_elim}
use mathlib.Core.List.{List, [], ◌∷◌, ◌++◌}
use lib.ListN.{length, get_or, length-append, get_or-append}
use lib.Seq.{ext_get_or, get_or-append-add}
use Rattle.kat.proofs.Bools.{le_or_lt}
use Rattle.memory.specs.Memory.{words}
use Rattle.memory.proofs.Words.{words_length, words_at_lem}
use Rattle.search_standings.specs.RingWords.{ring_words}

module _ (P : ℕ) (column : ℕ → ℕ) (first Z : ℕ) where
  columns : List ℕ
  columns = words 31 (λ k. column (suc k))

  columns_length : length columns ≡ 31
  unfolding columns
  columns_length = words_length 31 (λ k. column (suc k))

  pub ring_length : length (ring_words P column first Z) ≡ 34
  unfolding ring_words columns
  ring_length = ap suc (length-append columns (first ∷ Z ∷ []) ∙ ap (λ n. n + 2) columns_length)

  pub ring_p : get_or (ring_words P column first Z) 0 0 ≡ P
  unfolding ring_words
  ring_p = refl

  pub ring_column : (q : ℕ) → 1 ≤ q → q < 32 → get_or (ring_words P column first Z) q 0 ≡ column q
  unfolding ring_words columns
  ring_column zero h l = absurd (omega arith)
  ring_column (suc q) h l =
      get_or-append columns (first ∷ Z ∷ []) 0 q (omega (arith, columns_length))
      ∙ words_at_lem 31 (λ k. column (suc k)) q (omega arith)

  pub ring_first : get_or (ring_words P column first Z) 32 0 ≡ first
  unfolding ring_words columns
  ring_first = ap (λ n. get_or (columns ++ (first ∷ Z ∷ [])) (n + 0) 0) (sym columns_length) ∙ get_or-append-add columns (first ∷ Z ∷ []) 0 0

  pub ring_z : get_or (ring_words P column first Z) 33 0 ≡ Z
  unfolding ring_words columns
  ring_z = ap (λ n. get_or (columns ++ (first ∷ Z ∷ [])) (n + 1) 0) (sym columns_length) ∙ get_or-append-add columns (first ∷ Z ∷ []) 1 0

-- words that agree at each place
pub ring_ext : (u v : List ℕ) → length u ≡ 34 → length v ≡ 34 → get_or u 0 0 ≡ get_or v 0 0
    → ((q : ℕ) → 1 ≤ q → q < 32 → get_or u q 0 ≡ get_or v q 0) → get_or u 32 0 ≡ get_or v 32 0 → get_or u 33 0 ≡ get_or v 33 0 → u ≡ v
ring_ext u v e d p c f z = ext_get_or 0 u v (e ∙ sym d) (λ k i. at k (omega arith))
  where
    at : (k : ℕ) → k < 34 → get_or u k 0 ≡ get_or v k 0
    at zero h = p
    at (suc k) h = ⊎_elim (λ l. behind (k - 31) (omega arith) (omega arith)) (λ l. c (suc k) (omega arith) (omega arith)) (le_or_lt 31 k)
      where
        behind : (j : ℕ) → suc k ≡ 32 + j → j < 2 → get_or u (suc k) 0 ≡ get_or v (suc k) 0
        behind zero g l = ap (λ i. get_or u i 0) g ∙ f ∙ ap (λ i. get_or v i 0) (sym g)
        behind (suc zero) g l = ap (λ i. get_or u i 0) g ∙ z ∙ ap (λ i. get_or v i 0) (sym g)
        behind (suc (suc j)) g l = absurd (omega arith)

-- words are the words of a standing where they are so at each place
pub ring_is : (u : List ℕ) (P : ℕ) (column : ℕ → ℕ) (first Z : ℕ) → length u ≡ 34 → get_or u 0 0 ≡ P
    → ((q : ℕ) → 1 ≤ q → q < 32 → get_or u q 0 ≡ column q) → get_or u 32 0 ≡ first → get_or u 33 0 ≡ Z → u ≡ ring_words P column first Z
ring_is u P column first Z e p c f z =
    ring_ext u (ring_words P column first Z) e (ring_length P column first Z) (p ∙ sym (ring_p P column first Z))
    (λ q h l. c q h l ∙ sym (ring_column P column first Z q h l)) (f ∙ sym (ring_first P column first Z))
    (z ∙ sym (ring_z P column first Z))

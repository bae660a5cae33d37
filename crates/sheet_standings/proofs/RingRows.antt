-- The 67 cells of a ring standing: what stands at each place, that each has four bytes, and the rows of M and N as lists. (Document 01, "Sheet
-- and graph bytes".) A table is read row by row, so a law on rows is one on row j and never on all 32.
-- Assumes nothing.
use Prim.Native.Nat.{ℕ, zero, suc, ◌+◌, ◌-◌, ◌/◌, ◌%◌, ◌^◌, ◌<◌}
use native.Mathlib.Omega.{arith}
use mathlib.Core.Path.{◌≡◌, refl, sym, ◌∙◌, ap, ap₂, subst}
use mathlib.Core.Logic.{⊎_elim}
use mathlib.Core.Bool.{Bool, true}
use mathlib.Core.List.{List, [], ◌∷◌, ◌++◌, map, map-map}
use lib.ListN.{length, get_or, take, drop, length-append, length-drop, get_or-append, get_or-eq_default}
use lib.Pow.{split}
use lib.Seq.{get_or-append-add, get_or-take, get_or-drop, length-take-le}
use Rattle.kat.specs.Lists.{upto}
use Rattle.kat.proofs.Bools.{le_or_lt, and_left, and_right, and_both}
use Rattle.claims.specs.Fields.{number_set}
use Rattle.claims.specs.SheetReading.{rows_pass, table_of}
use Rattle.memory.specs.Memory.{words}
use Rattle.memory.proofs.Words.{words_length, words_at_lem, words_ext}
use Rattle.sheet_standings.specs.Layout.{halves, wide}
use Rattle.sheet_standings.specs.RingCells.{row_m, row_n, ring_cells}

-- the places of the cells: head, P in two, the rows of M, the rows of N
pub by_place : (Q : ℕ → Type 0) → Q 0 → Q 1 → Q 2 → ((p : ℕ) → p < 32 → Q (3 + p)) → ((q : ℕ) → q < 32 → Q (35 + q))
    → (i : ℕ) → i < 67 → Q i
by_place Q a b c m n zero h = a
by_place Q a b c m n (suc zero) h = b
by_place Q a b c m n (suc (suc zero)) h = c
by_place Q a b c m n (suc (suc (suc k))) h =
    ⊎_elim (λ j. let z : 35 + (k - 32) ≡ suc (suc (suc k)) = omega arith in subst Q z (n (k - 32) (omega arith)))
    (λ j. let z : 3 + k ≡ suc (suc (suc k)) = omega arith in subst Q z (m k j)) (le_or_lt 32 k)

module _ (head P : ℕ) (m n : ℕ → ℕ) where
  pub ring_length : length (ring_cells head P m n) ≡ 67
  unfolding ring_cells halves
  ring_length =
      ap (λ k. suc (suc (suc k))) (length-append (words 32 m) (words 32 n) ∙ ap₂ ◌+◌ (words_length 32 m) (words_length 32 n))

  pub ring_head : get_or (ring_cells head P m n) 0 0 ≡ head
  unfolding ring_cells
  ring_head = refl

  pub ring_high : get_or (ring_cells head P m n) 1 0 ≡ P / 2 ^ 32
  unfolding ring_cells halves
  ring_high = refl

  pub ring_low : get_or (ring_cells head P m n) 2 0 ≡ P % 2 ^ 32
  unfolding ring_cells halves
  ring_low = refl

  pub ring_p : wide (ring_cells head P m n) 1 ≡ P
  unfolding wide ring_cells halves
  ring_p = split P 32

  pub ring_m : (p : ℕ) → p < 32 → row_m (ring_cells head P m n) p ≡ m p
  unfolding row_m ring_cells halves
  ring_m p h =
      let z : 3 + p ≡ suc (suc (suc p)) = omega arith in
      ap (λ i. get_or (head ∷ (halves P ++ (words 32 m ++ words 32 n))) i 0) z
      ∙ get_or-append (words 32 m) (words 32 n) 0 p (omega (arith, words_length 32 m)) ∙ words_at_lem 32 m p h

  pub ring_n : (q : ℕ) → q < 32 → row_n (ring_cells head P m n) q ≡ n q
  unfolding row_n ring_cells halves
  ring_n q h =
      let z : 35 + q ≡ suc (suc (suc (32 + q))) = omega arith in
      ap (λ i. get_or (head ∷ (halves P ++ (words 32 m ++ words 32 n))) i 0) z
      ∙ ap (λ k. get_or (words 32 m ++ words 32 n) (k + q) 0) (sym (words_length 32 m))
      ∙ get_or-append-add (words 32 m) (words 32 n) q 0 ∙ words_at_lem 32 n q h

  -- each cell has four bytes
  pub ring_small : head < 2 ^ 32 → P < 2 ^ 64 → ((p : ℕ) → p < 32 → m p < 2 ^ 32) → ((q : ℕ) → q < 32 → n q < 2 ^ 32)
      → (i : ℕ) → get_or (ring_cells head P m n) i 0 < 2 ^ 32
  unfolding row_m row_n
  ring_small a b c d i =
      ⊎_elim
      (λ h. subst (λ k. k < 2 ^ 32) (sym (get_or-eq_default (ring_cells head P m n) 0 {n = i} (omega (arith, ring_length)))) (omega arith))
      (λ h. by_place (λ j. get_or (ring_cells head P m n) j 0 < 2 ^ 32) (subst (λ k. k < 2 ^ 32) (sym ring_head) a)
      (subst (λ k. k < 2 ^ 32) (sym ring_high) (omega arith)) (subst (λ k. k < 2 ^ 32) (sym ring_low) (omega arith))
      (λ p k. subst (λ k. k < 2 ^ 32) (sym (ring_m p k)) (c p k)) (λ q k. subst (λ k. k < 2 ^ 32) (sym (ring_n q k)) (d q k)) i h)
      (le_or_lt 67 i)

-- the rows as a list
module _ (s : List ℕ) (size : length s ≡ 67) where
  pub rows_m_lem : take 32 (drop 3 s) ≡ words 32 (row_m s)
  unfolding row_m
  rows_m_lem =
      words_ext (take 32 (drop 3 s)) 32 (λ p. get_or s (3 + p) 0) (length-take-le 32 (drop 3 s) (omega (arith, length-drop 3 s)))
      (λ p h. get_or-take 32 (drop 3 s) p 0 h ∙ get_or-drop 3 s p 0)

  pub rows_n_lem : take 32 (drop 35 s) ≡ words 32 (row_n s)
  unfolding row_n
  rows_n_lem =
      words_ext (take 32 (drop 35 s)) 32 (λ p. get_or s (35 + p) 0) (length-take-le 32 (drop 35 s) (omega (arith, length-drop 35 s)))
      (λ p h. get_or-take 32 (drop 35 s) p 0 h ∙ get_or-drop 35 s p 0)

-- every row of a list passes the test of its number
rows_pass_lem : (f : ℕ → ℕ → Bool) (p : ℕ) (ms : List ℕ)
    → ((j : ℕ) → j < length ms → f (p + j) (get_or ms j 0) ≡ true) → rows_pass f p ms ≡ true
unfolding rows_pass
rows_pass_lem f p [] h = refl
rows_pass_lem f p (m ∷ ms) h =
    and_both (ap (λ i. f i m) (omega arith) ∙ h 0 (omega arith))
    (rows_pass_lem f (suc p) ms (λ j k. ap (λ i. f i (get_or ms j 0)) (omega arith) ∙ h (suc j) (omega arith)))

row_passes : (f : ℕ → ℕ → Bool) (p : ℕ) (ms : List ℕ)
    → rows_pass f p ms ≡ true → (j : ℕ) → j < length ms → f (p + j) (get_or ms j 0) ≡ true
unfolding rows_pass
row_passes f p [] e j h = absurd (omega arith)
row_passes f p (m ∷ ms) e zero h = ap (λ i. f i m) (omega arith) ∙ and_left (f p m) (rows_pass f (suc p) ms) e
row_passes f p (m ∷ ms) e (suc j) h =
    ap (λ i. f i (get_or ms j 0)) (omega arith) ∙ row_passes f (suc p) ms (and_right (f p m) (rows_pass f (suc p) ms) e) j (omega arith)

module _ (f : ℕ → ℕ → Bool) (n : ℕ) (g : ℕ → ℕ) where
  pub words_pass : ((j : ℕ) → j < n → f j (g j) ≡ true) → rows_pass f 0 (words n g) ≡ true
  words_pass h =
      rows_pass_lem f 0 (words n g) (λ j k. let l : j < n = omega (arith, words_length n g) in
      ap₂ f (omega arith) (words_at_lem n g j l) ∙ h j l)

  pub word_passes : rows_pass f 0 (words n g) ≡ true → (j : ℕ) → j < n → f j (g j) ≡ true
  word_passes e j h =
      sym (ap₂ f (omega arith) (words_at_lem n g j h)) ∙ row_passes f 0 (words n g) e j (omega (arith, words_length n g))

-- a table of rows is a function of the row's number
pub table_rows : (r n : ℕ) (g : ℕ → ℕ) → r < n → table_of r (words n g) ≡ map (λ p. number_set 0 (suc r) (g p)) (upto 0 (suc r))
unfolding table_of words
table_rows r n g h = ap (map (number_set 0 (suc r))) front ∙ map-map (number_set 0 (suc r)) g (upto 0 (suc r))
  where
    front : take (suc r) (words n g) ≡ words (suc r) g
    front =
        words_ext (take (suc r) (words n g)) (suc r) g (length-take-le (suc r) (words n g) (omega (arith, words_length n g)))
        (λ k i. get_or-take (suc r) (words n g) k 0 i ∙ words_at_lem n g k (omega arith))

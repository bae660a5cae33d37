-- The field of words, and its contents, are those of the standing that they show: of a path standing by its two words, of a ring standing by its 34 words,
-- row by row. (Document 01, "Sheet and graph bytes".)
-- Assumes nothing.
use Prim.Native.Nat.{ℕ, zero, suc, ◌+◌, ◌-◌, ◌/◌, ◌%◌, ◌^◌, ◌≤◌, ◌<◌}
use native.Mathlib.Nat.{div-one, mod-eq_of_lt, eq-zero-or-pos}
use native.Mathlib.Omega.{arith}
use mathlib.Core.Path.{◌≡◌, refl, sym, ◌∙◌, ap, ap₂}
use mathlib.Core.Logic.{⊎_elim}
use mathlib.Core.Bool.{Bool, true, false, cond, not}
use mathlib.Core.List.{List, [], ◌∷◌, ◌++◌}
use lib.Dec.{eqb}
use lib.ListN.{get_or}
use borrow.Author.Tests.{eq-eqb, ne_eqb}
use Rattle.kat.specs.Lists.{counted, upto, filter}
use Rattle.claims.specs.Query.{bit}
use Rattle.claims.specs.Fields.{big_endian, set_number, field}
use Rattle.claims.specs.Standings.{row}
use Rattle.claims.specs.Width.{width, row_length}
use Rattle.claims.specs.SheetBytes.{set_bytes, row_bytes, table_bytes, path_bytes, ring_bytes}
use Rattle.bits.proofs.Bit.{bit_ext}
use Rattle.side_atoms.proofs.Atoms.{number_small, bit_of}
use Rattle.search_standings.specs.RingWords.{in_m}
use Rattle.standings.proofs.OccurrenceWords.{occurrences_of, word_bytes}
use Rattle.search_standings.proofs.RingShown.{ring_shown, GoodRing}
use Rattle.search_standings.proofs.RingRows.{M-row-bit, M-row-small, N-row-zero, N-row-number}
use Rattle.search_contents.specs.FieldWords.{number_m, number_n, row_number, rows_from, rows_bytes, contents_words, field_words}

-- two words, of l left and r right occurrences ("Sheet and graph bytes")
pub path_contents : (l r : ℕ) (s : List ℕ) → get_or s 0 0 < 2 ^ l → get_or s 1 0 < 2 ^ r
    → contents_words false s ≡ path_bytes (record { P = occurrences_of l (get_or s 0 0); S = occurrences_of r (get_or s 1 0) })
unfolding contents_words path_bytes
path_contents l r s h i = ap₂ ◌++◌ (sym (word_bytes l (get_or s 0 0) h)) (sym (word_bytes r (get_or s 1 0) i))

pub path_field_lem : (l r : ℕ) (s : List ℕ) → get_or s 0 0 < 2 ^ l → get_or s 1 0 < 2 ^ r
    → field_words false s ≡ field 3 (path_bytes (record { P = occurrences_of l (get_or s 0 0); S = occurrences_of r (get_or s 1 0) }))
unfolding field_words
path_field_lem l r s h i = ap (field 3) (path_contents l r s h i)

-- the rows of a table from row p on
rows_same : (upper : Bool) (s : List ℕ) (t : List (List ℕ)) (p n : ℕ)
    → ((i : ℕ) → p ≤ i → i < p + n → row_number upper s i ≡ set_number 0 (row t i)) → rows_from upper s (counted p n) ≡ row_bytes 4 t p n
unfolding rows_from row_bytes
rows_same upper s t p zero h = refl
rows_same upper s t p (suc n) h =
    ap₂ (λ w bs. big_endian 4 w ++ bs) (h p (omega arith) (omega arith)) (rows_same upper s t (suc p) n (λ i a b. h i (omega arith) (omega arith)))

-- a number below 256 in one byte
pub one_byte : (m : ℕ) → m < 256 → big_endian 1 m ≡ m ∷ []
unfolding big_endian
one_byte m h = ap (λ k. k % 256 ∷ []) (div-one m) ∙ ap (λ k. k ∷ []) (mod-eq_of_lt h)

-- a flag as a number
flag_number : (w : ℕ) → w < 2 → w ≡ cond (not (eqb w 0)) 1 0
flag_number w h =
    ⊎_elim (λ e. e ∙ ap (λ b. cond (not b) 1 0) (sym (eq-eqb w 0 e)))
    (λ e. let z : w ≡ 1 = omega arith in z ∙ ap (λ b. cond (not b) 1 0) (sym (ne_eqb w 0 (λ y. omega arith)))) (eq-zero-or-pos w)

-- 34 words, of l left and n right occurrences ("Sheet and graph bytes")
module _ (l n : ℕ) (few : n ≤ 31) (s : List ℕ) (good : GoodRing l n s) where
  row_m_lem : (p : ℕ) → p < 32 → row_number false s p ≡ set_number 0 (row (ring_shown l n s).M p)
  unfolding row_number number_m
  row_m_lem p h =
      bit_ext 32 (set_number 0 (filter (in_m s p) (upto 0 32))) (set_number 0 (row (ring_shown l n s).M p)) (number_small (in_m s p) 0 32 (omega arith)) (M-row-small l n few s good p)
      (λ i k. let z : i ≡ i - 0 = omega arith in
      ap (λ j. bit j (set_number 0 (filter (in_m s p) (upto 0 32)))) z ∙ bit_of (in_m s p) 0 32 i (omega arith) (omega arith) k ∙ sym (M-row-bit l n few s good p i h k))

  row_n_lem : (q : ℕ) → q < 32 → row_number true s q ≡ set_number 0 (row (ring_shown l n s).N q)
  unfolding row_number number_n
  row_n_lem zero h = sym (N-row-zero l n few s good)
  row_n_lem (suc q) h =
      ap (λ b. cond b 0 (get_or s (suc q) 0 / 2 ^ 32)) (ne_eqb (suc q) 0 (λ e. omega arith)) ∙ sym (N-row-number l n few s good (suc q) (omega arith) h)

  table_m_lem : rows_bytes false s ≡ table_bytes (ring_shown l n s).M
  unfolding rows_bytes table_bytes width row_length
  table_m_lem = rows_same false s (ring_shown l n s).M 0 32 (λ i a b. row_m_lem i b)

  table_n_lem : rows_bytes true s ≡ table_bytes (ring_shown l n s).N
  unfolding rows_bytes table_bytes width row_length
  table_n_lem = rows_same true s (ring_shown l n s).N 0 32 (λ i a b. row_n_lem i b)

  first_byte : big_endian 1 (get_or s 32 0) ≡ (ring_shown l n s).first ∷ []
  unfolding ring_shown
  first_byte = one_byte (get_or s 32 0) (omega (arith, good.first_small))

  flag_byte : big_endian 1 (get_or s 33 0) ≡ cond (ring_shown l n s).Z 1 0 ∷ []
  unfolding ring_shown
  flag_byte = one_byte (get_or s 33 0) (omega (arith, good.flag_small)) ∙ ap (λ k. k ∷ []) (flag_number (get_or s 33 0) good.flag_small)

  left_bytes : big_endian 8 (get_or s 0 0) ≡ set_bytes (ring_shown l n s).P
  unfolding ring_shown
  left_bytes = sym (word_bytes l (get_or s 0 0) good.P-small)

  pub ring_contents : contents_words true s ≡ ring_bytes (ring_shown l n s)
  unfolding contents_words ring_bytes
  ring_contents = ap₂ ◌++◌ first_byte (ap₂ ◌++◌ flag_byte (ap₂ ◌++◌ left_bytes (ap₂ ◌++◌ table_m_lem table_n_lem)))

  pub ring_field_lem : field_words true s ≡ field 3 (ring_bytes (ring_shown l n s))
  unfolding field_words
  ring_field_lem = ap (field 3) ring_contents

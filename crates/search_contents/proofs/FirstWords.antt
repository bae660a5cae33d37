-- A field looks at no word past those of the standing: the first 2, or the first 34.
-- Assumes nothing.
use Prim.Native.Nat.{ℕ, zero, suc, ◌+◌, ◌/◌, ◌^◌, ◌≤◌, ◌<◌}
use native.Mathlib.Omega.{arith}
use mathlib.Core.Path.{◌≡◌, refl, ap, ap₂}
use mathlib.Core.Bool.{Bool, true, false, cond}
use mathlib.Core.List.{List, ◌++◌}
use lib.Dec.{eqb}
use lib.ListN.{get_or, take}
use lib.Seq.{get_or-take}
use Rattle.kat.specs.Lists.{counted, upto}
use Rattle.kat.proofs.Sets.{filter_same, upto_in}
use Rattle.claims.specs.Query.{bit}
use Rattle.claims.specs.Fields.{big_endian, set_number, field}
use Rattle.search_standings.specs.Systems.{width}
use Rattle.search_standings.specs.RingWords.{in_m}
use Rattle.search_contents.specs.FieldWords.{number_m, number_n, row_number, rows_from, rows_bytes, contents_words, field_words}

module _ (s : List ℕ) where
  word_first : (i : ℕ) → i < 34 → get_or (take 34 s) i 0 ≡ get_or s i 0
  word_first i h = get_or-take 34 s i 0 h

  row_first : (upper : Bool) (p : ℕ) → p < 32 → row_number upper (take 34 s) p ≡ row_number upper s p
  unfolding row_number number_m number_n in_m
  row_first false p h =
      ap (set_number 0) (filter_same (in_m (take 34 s) p) (in_m s p) (upto 0 32)
      (λ q i. let (a, b) = upto_in q 0 32 i in ap (λ w. cond (eqb q 0) false (bit p w)) (word_first q (omega arith))))
  row_first true p h = ap (λ w. cond (eqb p 0) 0 (w / 2 ^ 32)) (word_first p (omega arith))

  rows_first : (upper : Bool) (p n : ℕ) → p + n ≤ 32 → rows_from upper (take 34 s) (counted p n) ≡ rows_from upper s (counted p n)
  unfolding rows_from
  rows_first upper p zero h = refl
  rows_first upper p (suc n) h = ap₂ (λ w bs. big_endian 4 w ++ bs) (row_first upper p (omega arith)) (rows_first upper (suc p) n (omega arith))

  table_first : (upper : Bool) → rows_bytes upper (take 34 s) ≡ rows_bytes upper s
  unfolding rows_bytes
  table_first upper = rows_first upper 0 32 (omega arith)

  contents_first : (ring : Bool) → contents_words ring (take (width ring) s) ≡ contents_words ring s
  unfolding contents_words width
  contents_first false =
      ap₂ (λ a b. big_endian 8 a ++ big_endian 8 b) (get_or-take 2 s 0 0 (omega arith)) (get_or-take 2 s 1 0 (omega arith))
  contents_first true =
      ap₂ ◌++◌ (ap (big_endian 1) (word_first 32 (omega arith))) (ap₂ ◌++◌ (ap (big_endian 1) (word_first 33 (omega arith)))
      (ap₂ ◌++◌ (ap (big_endian 8) (word_first 0 (omega arith))) (ap₂ ◌++◌ (table_first false) (table_first true))))

  -- the field of the first words
  pub field_first : (ring : Bool) → field_words ring (take (width ring) s) ≡ field_words ring s
  unfolding field_words
  field_first ring = ap (field 3) (contents_first ring)

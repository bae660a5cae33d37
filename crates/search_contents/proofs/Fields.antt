-- The parts of a field put one behind the other are the field: header and contents of a path standing and of a ring standing, and the rows
-- of a table one after the other.
-- Assumes nothing.
use Prim.Native.Nat.{ℕ, ◌+◌, ◌-◌, ◌*◌, ◌≤◌, ◌<◌}
use native.Mathlib.Omega.{arith}
use mathlib.Core.Path.{◌≡◌, refl, sym, ◌∙◌, ap, ap₂}
use mathlib.Core.Bool.{Bool, true, false, cond}
use mathlib.Core.List.{List, [], ◌∷◌, ◌++◌, append_assoc}
use lib.ListN.{length, get_or, set, length-append}
use Rattle.kat.specs.Lists.{counted, upto}
use Rattle.kat.proofs.Sets.{counted_length}
use Rattle.claims.specs.Fields.{big_endian, field}
use Rattle.claims.proofs.Bytes.{big_endian_length}
use Rattle.standings.proofs.Upto.{upto_more}
use Rattle.search_contents.specs.Written.{written, over}
use Rattle.search_contents.specs.FieldWords.{row_number, rows_from, rows_bytes, contents_words, field_words, field_length}
use Rattle.search_contents.proofs.Written.{written_next, written_set, over_none, over_next}

-- the slice has the bytes bs at its start, and behind them, from place `at` on, what xs has
pub record Laid (bs : List ℕ) (at : ℕ) (xs ys : List ℕ) : Type 0 where
  pub put : ys ≡ written bs xs
  pub count : length bs ≡ at

-- more bytes behind them
pub laid_next : {bs : List ℕ} {at : ℕ} {xs ys : List ℕ} (ds zs : List ℕ) (n next : ℕ)
    → Laid bs at xs ys → zs ≡ over at ds ys → length ds ≡ n → next ≡ at + n → Laid (bs ++ ds) next xs zs
laid_next {bs} {at} {xs} {ys} ds zs n next h e l z =
    record {
      put = e ∙ ap (over at ds) h.put ∙ written_next bs ds xs at h.count;
      count = length-append bs ds ∙ ap₂ ◌+◌ h.count l ∙ sym z;
    }

-- a tag and a length
pub header_put : (tag len : ℕ) (xs : List ℕ) → 0 < length xs → over 1 (big_endian 2 len) (set xs 0 tag) ≡ written (tag ∷ big_endian 2 len) xs
header_put tag len xs h =
    ap (over 1 (big_endian 2 len)) (written_set tag xs h) ∙ written_next (tag ∷ []) (big_endian 2 len) xs 1 refl

pub laid_header : (tag len at : ℕ) (xs ys : List ℕ) → (at ≡ 3) × (ys ≡ written (tag ∷ big_endian 2 len) xs)
    → Laid (tag ∷ big_endian 2 len) at xs ys
laid_header tag len at xs ys h = record { put = h.1; count = omega (arith, big_endian_length 2 len, h.0) }

pub field_of : (tag n : ℕ) (contents : List ℕ) → length contents ≡ n → (tag ∷ big_endian 2 n) ++ contents ≡ field tag contents
unfolding field
field_of tag n contents e = ap (λ k. tag ∷ (big_endian 2 k ++ contents)) (sym e)

-- a row, and then the others
module _ (upper : Bool) (s : List ℕ) where
  pub rows_more : (at p : ℕ) (xs : List ℕ) → p < 32 → at ≤ length xs
      → over (at + 4) (rows_from upper s (upto (p + 1) 32)) (over at (big_endian 4 (row_number upper s p)) xs)
      ≡ over at (rows_from upper s (upto p 32)) xs
  unfolding rows_from
  rows_more at p xs h i =
      over_next at 4 (big_endian 4 (row_number upper s p)) (rows_from upper s (upto (p + 1) 32)) xs i (big_endian_length 4 (row_number upper s p))
      ∙ ap (λ ps. over at (rows_from upper s ps) xs) (sym (upto_more p 32 h))

  pub rows_end : (at p : ℕ) (xs : List ℕ) → 32 ≤ p → xs ≡ over at (rows_from upper s (upto p 32)) xs
  unfolding rows_from
  rows_end at p xs h =
      let z : 0 ≡ 32 - p = omega arith in
      sym (over_none at xs) ∙ ap (λ n. over at (rows_from upper s (counted p n)) xs) z

  rows_length : (ps : List ℕ) → length (rows_from upper s ps) ≡ 4 * length ps
  unfolding rows_from
  rows_length [] = refl
  rows_length (p ∷ ps) =
      omega (arith, length-append (big_endian 4 (row_number upper s p)) (rows_from upper s ps), big_endian_length 4 (row_number upper s p), rows_length ps)

  pub table_length : length (rows_bytes upper s) ≡ 128
  unfolding rows_bytes
  table_length = rows_length (upto 0 32) ∙ ap (λ n. 4 * n) (counted_length 0 32)

-- the field of a path standing
module _ (s : List ℕ) where
  pub path_length : length (contents_words false s) ≡ 16
  unfolding contents_words
  path_length =
      length-append (big_endian 8 (get_or s 0 0)) (big_endian 8 (get_or s 1 0))
      ∙ ap₂ ◌+◌ (big_endian_length 8 (get_or s 0 0)) (big_endian_length 8 (get_or s 1 0))

  pub path_put : ((3 ∷ big_endian 2 16) ++ big_endian 8 (get_or s 0 0)) ++ big_endian 8 (get_or s 1 0) ≡ field_words false s
  unfolding field_words contents_words
  path_put =
      append_assoc (3 ∷ big_endian 2 16) (big_endian 8 (get_or s 0 0)) (big_endian 8 (get_or s 1 0))
      ∙ field_of 3 16 (contents_words false s) path_length

  -- the field of a ring standing
  pub ring_length : length (contents_words true s) ≡ 266
  unfolding contents_words
  ring_length =
      joined (big_endian 1 (get_or s 32 0)) _ 1 265 (big_endian_length 1 (get_or s 32 0))
      (joined (big_endian 1 (get_or s 33 0)) _ 1 264 (big_endian_length 1 (get_or s 33 0))
      (joined (big_endian 8 (get_or s 0 0)) _ 8 256 (big_endian_length 8 (get_or s 0 0))
      (joined (rows_bytes false s) (rows_bytes true s) 128 128 (table_length false s) (table_length true s))))
    where
      joined : (bs ds : List ℕ) (m n : ℕ) → length bs ≡ m → length ds ≡ n → length (bs ++ ds) ≡ m + n
      joined bs ds m n e f = length-append bs ds ∙ ap₂ ◌+◌ e f

  pub ring_put : (((((3 ∷ big_endian 2 266) ++ big_endian 1 (get_or s 32 0)) ++ big_endian 1 (get_or s 33 0)) ++ big_endian 8 (get_or s 0 0)) ++ rows_bytes false s)
      ++ rows_bytes true s ≡ field_words true s
  unfolding field_words contents_words
  ring_put =
      regroup (3 ∷ big_endian 2 266) (big_endian 1 (get_or s 32 0)) (big_endian 1 (get_or s 33 0)) (big_endian 8 (get_or s 0 0)) (rows_bytes false s)
      (rows_bytes true s)
      ∙ field_of 3 266 (contents_words true s) ring_length
    where
      regroup : (a b d e f g : List ℕ) → ((((a ++ b) ++ d) ++ e) ++ f) ++ g ≡ a ++ (b ++ (d ++ (e ++ (f ++ g))))
      regroup a b d e f g = simp append_assoc

-- how many bytes a field has
pub field_count : (ring : Bool) (s : List ℕ) → length (field_words ring s) ≡ field_length ring
unfolding field_words field_length field
field_count false s = omega (arith, length-append (big_endian 2 (length (contents_words false s))) (contents_words false s), big_endian_length 2 (length (contents_words false s)), path_length s)
field_count true s = omega (arith, length-append (big_endian 2 (length (contents_words true s))) (contents_words true s), big_endian_length 2 (length (contents_words true s)), ring_length s)

pub length_ring : (ring : Bool) → ring ≡ true → field_length ring ≡ 269
unfolding field_length
length_ring ring e = ap (λ b. cond b 269 19) e

pub length_path : (ring : Bool) → ring ≡ false → field_length ring ≡ 19
unfolding field_length
length_path ring e = ap (λ b. cond b 269 19) e

-- What the writer does in one turn: the next standing's field behind those written, and the letter before those gathered.
-- Assumes nothing.
use Prim.Native.Nat.{ℕ, ◌+◌, ◌*◌, ◌-◌, ◌/◌, ◌%◌, ◌≤◌, ◌<◌}
use native.Mathlib.Omega.{arith}
use mathlib.Core.Path.{◌≡◌, refl, sym, ◌∙◌, ap}
use mathlib.Core.Bool.{Bool}
use mathlib.Core.List.{List, ◌++◌, append_assoc}
use lib.ListN.{length, length-append}
use Rattle.kat.specs.Lists.{counted, upto}
use Rattle.kat.specs.Ring.{Prefix, nothing, then}
use Rattle.claims.specs.Fields.{big_endian, field}
use Rattle.claims.specs.Verdicts.{relations_in}
use Rattle.claims.proofs.Bytes.{big_endian_length}
use Rattle.standings.proofs.Upto.{upto_more}
use Rattle.search_store.specs.Store.{standing_at, parent_at, letter_at, Room}
use Rattle.search_contents.specs.Written.{written, over}
use Rattle.search_contents.specs.FieldWords.{field_words, field_length}
use Rattle.search_contents.proofs.Written.{written_next, over_none, over_next}
use Rattle.search_contents.proofs.Fields.{field_count}
use Rattle.search_sheet.specs.SheetWords.{Falling, prefix_within, prefix_in, letter_bytes, prefix_bytes, word_bytes, fields_from}
use Rattle.search_sheet.proofs.PrefixIn.{prefix_more}

pub room_below : {ring : Bool} {r : List (List ℕ)} {w : List ℕ} {m n : ℕ} → m ≤ n → Room ring r w n → Room ring r w m
room_below h k = record { path = λ e. omega (arith, k.path e); turn = λ e. omega (arith, k.turn e) }

module _ (ring : Bool) (r : List (List ℕ)) (w : List ℕ) where
  -- the next standing's field, and then the others
  pub fields_more : (at i n : ℕ) (xs : List ℕ) → i < n → at ≤ length xs
      → over (at + field_length ring) (fields_from ring r w (upto (i + 1) n)) (over at (field_words ring (standing_at ring r w i)) xs)
      ≡ over at (fields_from ring r w (upto i n)) xs
  unfolding fields_from
  fields_more at i n xs h l =
      over_next at (field_length ring) (field_words ring (standing_at ring r w i)) (fields_from ring r w (upto (i + 1) n)) xs l
      (field_count ring (standing_at ring r w i))
      ∙ ap (λ is. over at (fields_from ring r w is) xs) (sym (upto_more i n h))

  -- and how many bytes they have
  pub fields_count : (i n : ℕ) → i < n
      → length (fields_from ring r w (upto i n)) ≡ field_length ring + length (fields_from ring r w (upto (i + 1) n))
  unfolding fields_from
  fields_count i n h =
      ap (λ is. length (fields_from ring r w is)) (upto_more i n h)
      ∙ length-append (field_words ring (standing_at ring r w i)) (fields_from ring r w (upto (i + 1) n))
      ∙ ap (λ k. k + length (fields_from ring r w (upto (i + 1) n))) (field_count ring (standing_at ring r w i))

  pub fields_end : (at i n : ℕ) (xs : List ℕ) → n ≤ i → xs ≡ over at (fields_from ring r w (upto i n)) xs
  unfolding fields_from
  fields_end at i n xs h =
      let z : 0 ≡ n - i = omega arith in
      sym (over_none at xs) ∙ ap (λ k. over at (fields_from ring r w (counted i k)) xs) z

  pub fields_done : (i n : ℕ) → n ≤ i → length (fields_from ring r w (upto i n)) ≡ 0
  unfolding fields_from
  fields_done i n h = let z : n - i ≡ 0 = omega arith in ap (λ k. length (fields_from ring r w (counted i k))) z

-- bytes behind the verdict's field
pub verdict_length : (v : ℕ) → length (field 1 (big_endian 1 v)) ≡ 4
unfolding field big_endian
verdict_length v = refl

pub behind_verdict : (v : ℕ) (bs xs : List ℕ) → over 4 bs (written (field 1 (big_endian 1 v)) xs) ≡ written (field 1 (big_endian 1 v) ++ bs) xs
behind_verdict v bs xs = written_next (field 1 (big_endian 1 v)) bs xs 4 (verdict_length v)

-- a letter's two bytes
pub letter_put : (at l : ℕ) (xs : List ℕ) → at ≤ length xs → over (at + 1) (big_endian 1 (l % 16)) (over at (big_endian 1 (l / 16)) xs) ≡ over at (letter_bytes l) xs
unfolding letter_bytes
letter_put at l xs h = over_next at 1 (big_endian 1 (l / 16)) (big_endian 1 (l % 16)) xs h (big_endian_length 1 (l / 16))

pub letter_length : (l : ℕ) → length (letter_bytes l) ≡ 2
unfolding letter_bytes big_endian
letter_length l = refl

-- two bytes a relation
pub prefix_length : (l : Prefix) → length (prefix_bytes l) ≡ 2 * relations_in l
unfolding prefix_bytes
prefix_length nothing = refl
prefix_length (then l a r) =
    omega (
      arith,
      length-append (prefix_bytes l) (big_endian 1 a ++ big_endian 1 r),
      length-append (big_endian 1 a) (big_endian 1 r),
      big_endian_length 1 a,
      big_endian_length 1 r,
      prefix_length l,
    )

-- the letter of a standing, before what is behind it
pub letters_more : (ring : Bool) (r : List (List ℕ)) (w : List ℕ) (n : ℕ) → Falling ring r w n → (i : ℕ) → i < n → (bs : List ℕ)
    → prefix_bytes (prefix_in ring r w (parent_at ring r w i)) ++ (letter_bytes (letter_at ring r w i) ++ bs) ≡ prefix_bytes (prefix_in ring r w (i + 1)) ++ bs
unfolding prefix_bytes letter_bytes
letters_more ring r w n falls i h bs =
    sym (append_assoc (prefix_bytes (prefix_in ring r w (parent_at ring r w i))) (letter_bytes (letter_at ring r w i)) bs)
    ∙ ap (λ p. prefix_bytes p ++ bs) (sym (prefix_more ring r w n falls i h))

pub letters_end : (ring : Bool) (r : List (List ℕ)) (w : List ℕ) (p : ℕ) (bs : List ℕ) → p ≡ 0 → bs ≡ prefix_bytes (prefix_in ring r w p) ++ bs
unfolding prefix_bytes prefix_in prefix_within
letters_end ring r w p bs e = ap (λ j. prefix_bytes (prefix_in ring r w j) ++ bs) (sym e)

-- two bytes a letter, and the last atom
pub word_length : (ring : Bool) (r : List (List ℕ)) (w : List ℕ) (place last : ℕ)
    → length (word_bytes ring r w place last) ≡ 2 * relations_in (prefix_in ring r w place) + 1
unfolding word_bytes
word_length ring r w place last =
    omega (arith, length-append (prefix_bytes (prefix_in ring r w place)) (big_endian 1 last), prefix_length (prefix_in ring r w place), big_endian_length 1 last)

-- The sheet of a verdict, from the memory of standings. (Document 01, "Sheet and graph bytes".) A proved claim has the field of each standing
-- in the order of the memory; a refuted one has the word whose prefix is that of a place, by parents and letters. `proofs/` shows that for a
-- memory that keeps the entries of the search these are the sheets of the verdict.
-- Assumes nothing.
use Rattle.std.specs.Prelude.{ℕ, zero, suc, ◌+◌, ◌/◌, ◌%◌, ◌≤◌, ◌<◌, Bool, List, [], ◌∷◌, ◌++◌}
use Rattle.kat.specs.Lists.{upto}
use Rattle.kat.specs.Ring.{Prefix, nothing, then}
use Rattle.claims.specs.Fields.{big_endian, field}
use Rattle.search_store.specs.Store.{standing_at, parent_at, letter_at}
use Rattle.search_contents.specs.FieldWords.{field_words}

-- a letter, 16 * atom + relation, as two bytes: the atom, and the relation behind it ("Sheet and graph bytes")
unfoldable pub letter_bytes : ℕ → List ℕ
letter_bytes l = big_endian 1 (l / 16) ++ big_endian 1 (l % 16)

-- the numbers of a prefix, a byte a number ("Sheet and graph bytes")
unfoldable pub prefix_bytes : Prefix → List ℕ
prefix_bytes nothing = []
prefix_bytes (then l a r) = prefix_bytes l ++ (big_endian 1 a ++ big_endian 1 r)

-- the sheet of a refuted claim, by the numbers of the word ("Sheet and graph bytes")
unfoldable pub word_sheet : List ℕ → List ℕ
word_sheet numbers = field 1 (2 ∷ []) ++ field 2 numbers

module _ (ring : Bool) (r : List (List ℕ)) (w : List ℕ) where
  -- the parent of each of the first n standings is a place no later than the standing
  abbrev pub Falling : ℕ → Type 0
  Falling n = (i : ℕ) → i < n → parent_at ring r w i ≤ i

  -- the prefix of a place, at most f letters of it
  unfoldable pub prefix_within : ℕ → ℕ → Prefix
  prefix_within zero place = nothing
  prefix_within (suc f) zero = nothing
  prefix_within (suc f) (suc i) = then (prefix_within f (parent_at ring r w i)) (letter_at ring r w i / 16) (letter_at ring r w i % 16)

  -- the prefix of a place: parents fall, so it has no more letters than the number of the place
  unfoldable pub prefix_in : ℕ → Prefix
  prefix_in place = prefix_within place place

  -- the numbers of the word of a place and a last atom ("Sheet and graph bytes")
  unfoldable pub word_bytes : ℕ → ℕ → List ℕ
  word_bytes place last = prefix_bytes (prefix_in place) ++ big_endian 1 last

  -- the fields of the listed standings ("Sheet and graph bytes")
  unfoldable pub fields_from : List ℕ → List ℕ
  fields_from [] = []
  fields_from (i ∷ is) = field_words ring (standing_at ring r w i) ++ fields_from is

  -- the sheet of a proved claim with n standings ("Sheet and graph bytes")
  unfoldable pub proved_sheet : ℕ → List ℕ
  proved_sheet n = field 1 (1 ∷ []) ++ fields_from (upto 0 n)

  -- the sheet of a refuted claim with the word of a place and a last atom ("Sheet and graph bytes")
  unfoldable pub refuted_sheet : ℕ → ℕ → List ℕ
  refuted_sheet place last = word_sheet (word_bytes place last)

-- Fields: a one-byte tag, a two-byte big-endian length, contents. (Document 01, "Sheet and graph bytes".) They are read one by one
-- from where the last one ended.
-- Assumes nothing.
use Rattle.std.specs.Prelude.{ℕ, zero, suc, ◌+◌, ◌*◌, ◌-◌, ◌/◌, ◌%◌, ◌^◌, Bool, true, false, List, [], ◌∷◌, ◌++◌, leb, length, take, drop}
use Rattle.std.proofs.Math.Option.{Option, some, none}
use Rattle.kat.specs.Lists.{upto, filter}
use Rattle.notation.specs.Query.{bit}

-- a number in n bytes, big-endian ("Sheet and graph bytes")
unfoldable pub big_endian : ℕ → ℕ → List ℕ
big_endian zero m = []
big_endian (suc n) m = (m / 256 ^ n) % 256 ∷ big_endian n m

-- the number that the bytes are, big-endian, after m ("Sheet and graph bytes")
unfoldable pub from_bytes : ℕ → List ℕ → ℕ
from_bytes m [] = m
from_bytes m (b ∷ bs) = from_bytes (m * 256 + b) bs

-- a set as a number: bit k - lo for member k ("Sheet and graph bytes")
unfoldable pub set_number : ℕ → List ℕ → ℕ
set_number lo [] = 0
set_number lo (k ∷ ks) = 2 ^ (k - lo) + set_number lo ks

-- the set that a number is: the k from lo to below hi whose bit k - lo is set ("Sheet and graph bytes")
unfoldable pub number_set : ℕ → ℕ → ℕ → List ℕ
number_set lo hi m = filter (λ k. bit (k - lo) m) (upto lo hi)

-- a field with its tag, its length and its contents ("Sheet and graph bytes")
unfoldable pub field : ℕ → List ℕ → List ℕ
field tag contents = tag ∷ (big_endian 2 (length contents) ++ contents)

-- what stands at the start of the bytes ("Sheet and graph bytes")
pub data Field : Type 0 where
  whole : ℕ → List ℕ → List ℕ → Field  -- tag, contents, and the bytes after the field
  cut : Field  -- fewer bytes than its header, or its length, says

-- a field of n bytes of contents, if there are so many ("Sheet and graph bytes")
unfoldable pub contents_of : ℕ → ℕ → List ℕ → Field
contents_of tag n bs = elim (leb n (length bs)) [ true ↦ whole tag (take n bs) (drop n bs) | false ↦ cut ]

-- the first field of the bytes ("Sheet and graph bytes")
unfoldable pub next_field : List ℕ → Field
next_field [] = cut
next_field (t ∷ []) = cut
next_field (t ∷ h ∷ []) = cut
next_field (t ∷ h ∷ l ∷ bs) = contents_of t (h * 256 + l) bs

-- the bytes behind it ("Sheet and graph bytes")
abbrev pub after_field : Field → List ℕ
after_field cut = []
after_field (whole tag contents rest) = rest

-- the value, if the test passes ("Sheet and graph bytes")
abbrev pub provided : {A : Type 0} → Bool → A → Option A
provided true a = some a
provided false a = none

-- field k is the first wrong one: the bytes begin with k - 1 good fields and not with k, and they are not all of it ("Sheet and graph bytes")
abbrev pub FirstWrong : (ℕ → Type 0) → Type 0 → ℕ → Type 0
FirstWrong good all zero = ⊥
FirstWrong good all (suc n) = good n × (good (suc n) → ⊥) × (all → ⊥)

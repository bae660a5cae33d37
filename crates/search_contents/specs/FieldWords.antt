-- The field of a standing from its words. (Document 01, "Sheet and graph bytes".) The words of a ring standing have M by columns, so that
-- row p of M has bit q where column q has bit p; row q of N is the upper half of column q. `proofs/` shows that these are the bytes
-- of the standing that the words show.
-- Assumes nothing.
use Rattle.std.specs.Prelude.{ℕ, ◌/◌, ◌^◌, Bool, cond, true, false, List, [], ◌∷◌, ◌++◌, eqb, get_or}
use Rattle.kat.specs.Lists.{upto, filter}
use Rattle.claims.specs.Fields.{big_endian, set_number, field}
use Rattle.search_standings.specs.RingWords.{in_m}
use Rattle.layout.specs.Layout.{WIDTH, PATH-FIELD, RING-FIELD}
use Rattle.search_standings.specs.Layout.{FIRST, FLAG}

-- row p of M as a number, bit q for number q ("Sheet and graph bytes")
unfoldable pub number_m : List ℕ → ℕ → ℕ
number_m s p = set_number 0 (filter (in_m s p) (upto 0 WIDTH))

-- row q of N as a number, bit p for number p ("Sheet and graph bytes")
unfoldable pub number_n : List ℕ → ℕ → ℕ
number_n s q = cond (eqb q 0) 0 (get_or s q 0 / 2 ^ WIDTH)

-- a row of M (false) or of N (true) ("Sheet and graph bytes")
unfoldable pub row_number : Bool → List ℕ → ℕ → ℕ
row_number false s p = number_m s p
row_number true s p = number_n s p

-- the listed rows, 4 bytes each ("Sheet and graph bytes")
unfoldable pub rows_from : Bool → List ℕ → List ℕ → List ℕ
rows_from upper s [] = []
rows_from upper s (p ∷ ps) = big_endian 4 (row_number upper s p) ++ rows_from upper s ps

-- the rows of M (false) or of N (true) ("Sheet and graph bytes")
unfoldable pub rows_bytes : Bool → List ℕ → List ℕ
rows_bytes upper s = rows_from upper s (upto 0 WIDTH)

-- the contents of the field of a path standing (false) or of a ring standing (true) ("Sheet and graph bytes")
unfoldable pub contents_words : Bool → List ℕ → List ℕ
contents_words false s = big_endian 8 (get_or s 0 0) ++ big_endian 8 (get_or s 1 0)
contents_words true s =
    big_endian 1 (get_or s FIRST 0)
    ++ (big_endian 1 (get_or s FLAG 0) ++ (big_endian 8 (get_or s 0 0) ++ (rows_bytes false s ++ rows_bytes true s)))

-- the field ("Sheet and graph bytes")
unfoldable pub field_words : Bool → List ℕ → List ℕ
field_words ring s = field 3 (contents_words ring s)

-- how many bytes it has ("Sheet and graph bytes")
unfoldable pub field_length : Bool → ℕ
field_length ring = cond ring RING-FIELD PATH-FIELD

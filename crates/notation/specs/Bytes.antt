-- Bytes and lines. (Document 01, "The query".) A text is the list of its bytes.
-- Assumes nothing.
use Rattle.std.specs.Prelude.{ℕ, Bool, true, false, cond, ◌&&◌, ◌||◌, List, [], ◌∷◌, eqb, leb}
use Prim.Native.Char.{Char, code}
use Prim.Native.String.{String, [] as empty, ◌∷◌ as ◌then◌}

-- the byte of a quoted character ("The query")
abbrev pub byte : Char → ℕ
byte c = code c

-- the bytes of a quoted text ("The query")
abbrev pub text : String → List ℕ
text empty = []
text (c then s) = code c ∷ text s

-- two lists of numbers are equal ("The query")
abbrev pub same : List ℕ → List ℕ → Bool
same [] [] = true
same [] (y ∷ ys) = false
same (x ∷ xs) [] = false
same (x ∷ xs) (y ∷ ys) = eqb x y && same xs ys

-- b lies from m to n, both included ("The query")
abbrev pub between : ℕ → ℕ → ℕ → Bool
between m n b = leb m b && leb b n

-- printable ASCII, 32 to 126 ("The query")
abbrev pub printable : ℕ → Bool
printable b = between 32 126 b

-- a letter, `A` to `Z` or `a` to `z` ("The query")
abbrev pub letter : ℕ → Bool
letter b = between 65 90 b || between 97 122 b

-- a digit, `0` to `9` ("The query")
abbrev pub digit : ℕ → Bool
digit b = between 48 57 b

-- a line: its bytes, and whether byte 10 ends it ("The query")
pub record RawLine : Type 0 where
  pub bytes : List ℕ
  pub ended : Bool

-- a byte in front of the first line; the last line has no byte 10 ("The query")
unfoldable pub in_front : ℕ → List RawLine → List RawLine
in_front b [] = record { bytes = b ∷ []; ended = false } ∷ []
in_front b (l ∷ ls) = record { bytes = b ∷ l.bytes; ended = l.ended } ∷ ls

-- the lines of a text: what stands after the last byte 10 is a line as soon as it has a byte ("The query")
unfoldable pub raw_lines : List ℕ → List RawLine
raw_lines [] = []
raw_lines (b ∷ bs) = cond (eqb b 10) (record { bytes = []; ended = true } ∷ raw_lines bs) (in_front b (raw_lines bs))

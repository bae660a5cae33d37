-- The tokens of a line. (Document 01, "The query".) A word is a longest run of letters and digits, a letter first and at most 16 in
-- all; the marks stand for themselves; spaces separate. Any other run or byte is no token of the notation.
-- Assumes nothing.
use Rattle.std.specs.Prelude.{ℕ, Bool, false, cond, ◌&&◌, ◌||◌, List, [], ◌∷◌, ◌++◌, map, eqb, leb, length}
use Rattle.kat.specs.Lists.{some}
use Rattle.notation.specs.Bytes.{text, letter, digit, same}
use Rattle.notation.specs.LineKinds.{line_word, all_kinds}

-- a word, a mark, or what is no token of the notation ("The query")
pub data Token : Type 0 where
  word : List ℕ → Token
  mark : ℕ → Token
  bad : Token

-- a piece of a line: a longest run of letters and digits, or another byte ("The query")
pub data Piece : Type 0 where
  run : List ℕ → Piece
  other : ℕ → Piece

-- a letter or digit in front of the pieces ("The query")
unfoldable pub longer : ℕ → List Piece → List Piece
longer b [] = run (b ∷ []) ∷ []
longer b (run w ∷ ps) = run (b ∷ w) ∷ ps
longer b (other c ∷ ps) = run (b ∷ []) ∷ other c ∷ ps

-- the pieces of a line ("The query")
unfoldable pub pieces : List ℕ → List Piece
pieces [] = []
pieces (b ∷ bs) = cond (letter b || digit b) (longer b (pieces bs)) (other b ∷ pieces bs)

-- a letter, and then up to 15 letters or digits ("The query")
unfoldable pub word_like : List ℕ → Bool
word_like [] = false
word_like (b ∷ bs) = letter b && leb (length bs) 15

-- the marks of the notation ("The query")
unfoldable pub marks : List ℕ
marks = text "|;*+?[]()&!="

-- each piece as a token; spaces are left out ("The query")
unfoldable pub tokens_of : List Piece → List Token
tokens_of [] = []
tokens_of (run w ∷ ps) = cond (word_like w) (word w) bad ∷ tokens_of ps
tokens_of (other b ∷ ps) =
    cond (eqb b 32) (tokens_of ps) (cond (some (eqb b) marks) (mark b) bad ∷ tokens_of ps)

-- the tokens of a line ("The query")
unfoldable pub tokens : List ℕ → List Token
tokens bs = tokens_of (pieces bs)

-- line words, `in`, `empty`, `include`, `irreflexive`, `true` and `false` are no names ("The query")
unfoldable pub reserved_words : List (List ℕ)
reserved_words =
    map line_word all_kinds
    ++ (text "in" ∷ text "empty" ∷ text "include" ∷ text "irreflexive" ∷ text "true" ∷ text "false" ∷ [])

-- the word is no name ("The query")
unfoldable pub is_reserved : List ℕ → Bool
is_reserved w = some (same w) reserved_words

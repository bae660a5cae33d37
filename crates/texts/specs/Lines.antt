-- A line of a text by its number, the name that a line declares behind its first word, and the names that a text declares under a word.
-- (Document 01, "The query".) Bytes that are no query have lines too.
-- Assumes nothing.
use Rattle.std.specs.Prelude.{ℕ, zero, suc, Bool, not, cond, ◌||◌, List, [], ◌∷◌, map, eqb, get_or}
use Rattle.kat.specs.Lists.{is_empty, filter}
use Rattle.claims.specs.Bytes.{letter, digit, same, raw_lines}

-- the bytes in front of the first one that is not as p says ("The query")
unfoldable pub front : (ℕ → Bool) → List ℕ → List ℕ
front p [] = []
front p (b ∷ bs) = cond (p b) (b ∷ front p bs) []

-- the bytes from the first one on that is not as p says ("The query")
unfoldable pub back : (ℕ → Bool) → List ℕ → List ℕ
back p [] = []
back p (b ∷ bs) = cond (p b) (back p bs) (b ∷ bs)

-- a byte within a line ("The query")
abbrev pub in_line : ℕ → Bool
in_line b = not (eqb b 10)

-- a space ("The query")
abbrev pub is_space : ℕ → Bool
is_space b = eqb b 32

-- a letter or a digit ("The query")
abbrev pub in_word : ℕ → Bool
in_word b = letter b || digit b

-- all but the first byte ("The query")
unfoldable pub behind : List ℕ → List ℕ
behind [] = []
behind (b ∷ bs) = bs

-- line n of a text without its byte 10, counted from 1; no bytes where there is no such line ("The query")
unfoldable pub line_at : ℕ → List ℕ → List ℕ
line_at zero bs = []
line_at (suc zero) bs = front in_line bs
line_at (suc (suc n)) bs = line_at (suc n) (behind (back in_line bs))

-- the word behind the first one, where that is w, and else no bytes ("The query")
unfoldable pub declared_by : List ℕ → List ℕ → List ℕ
declared_by w line =
    cond (same (front in_word (back is_space line)) w) (front in_word (back is_space (back in_word (back is_space line)))) []

-- what a text's lines declare under the word w, in their order, without the lines that declare nothing ("The query")
unfoldable pub names_under : List ℕ → List ℕ → List (List ℕ)
names_under w bs = filter (λ n. not (is_empty n)) (map (λ l. declared_by w l.bytes) (raw_lines bs))

-- the name that k others stand before, or no bytes ("The query")
unfoldable pub name_at : List ℕ → ℕ → List ℕ → List ℕ
name_at w k bs = get_or (names_under w bs) k []

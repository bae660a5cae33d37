-- Where what stands in the table of a side, by name. (Document 01, "Standings".) The steps come first, a row for each of 64 atoms; then the
-- ends, a word for each atom; the letters, a word for each of 16 relations; and the atoms that are words. The same numbers have the same
-- names in the code.
-- Assumes nothing.
use Rattle.std.specs.Prelude.{ℕ}

-- the words of an atom's row: one for nothing read, and one for each of 64 occurrences
abbrev pub ROW : ℕ
ROW = 65

-- where the ends begin, behind 64 rows
abbrev pub ENDS : ℕ
ENDS = 4160

-- where the letters begin
abbrev pub LETTERS : ℕ
LETTERS = 4224

-- where the set of the atoms stands that are words
abbrev pub NULL : ℕ
NULL = 4240

-- the words of a table
abbrev pub TABLE : ℕ
TABLE = 4241

-- How wide a ring standing is, named once: the rows of its tables, the bytes of a row, the right occurrences of a ring claim, and the
-- words of working memory all come from it. (Document 01, "Standings" and "Sheet and graph bytes".)
-- Assumes nothing.
use Rattle.std.specs.Prelude.{ℕ, ◌+◌, ◌/◌}

-- the numbers of a ring's tables are below it: 0, and right occurrences up to 31 ("Standings")
unfoldable pub width : ℕ
width = 32

-- a row has a bit for each number, so an eighth as many bytes ("Sheet and graph bytes")
unfoldable pub row_length : ℕ
row_length = width / 8

-- the words of a ring standing beside the columns of its tables: P, first atom, Z, parent, letter and three to spare ("Standings")
unfoldable pub beside_columns : ℕ
beside_columns = 8

-- the words of a ring standing: a column of its tables for each number, and those beside them ("Standings")
unfoldable pub ring_words : ℕ
ring_words = width + beside_columns

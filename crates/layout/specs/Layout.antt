-- The sizes that the code has by name, under the same names for contracts and definitions. (Document 01, "Standings", "Sheet and graph bytes" and
-- "The desk's cases".) They are numerals, so that a proof counts with them; `proofs/Named.antt` shows that each is what the definitions of
-- document 01 say.
-- Assumes nothing.
use Rattle.std.specs.Prelude.{ℕ}

-- how many numbers a ring's tables are over: 0, and the right occurrences of a ring claim ("Standings")
abbrev pub WIDTH : ℕ
WIDTH = 32

-- the right occurrences that a ring claim may have ("Standings")
abbrev pub MOST-RIGHT : ℕ
MOST-RIGHT = 31

-- the words of working memory for each standing of a ring claim ("Standings")
abbrev pub RING-WORDS : ℕ
RING-WORDS = 40

-- the bytes of a field before its contents: the tag, and the length in two bytes ("Sheet and graph bytes")
abbrev pub HEADER : ℕ
HEADER = 3

-- the bytes of the verdict's field ("Sheet and graph bytes")
abbrev pub VERDICT : ℕ
VERDICT = 4

-- where the word of a refuted sheet begins ("Sheet and graph bytes")
abbrev pub WORD-AT : ℕ
WORD-AT = 7

-- the contents of the field of a path standing ("Sheet and graph bytes")
abbrev pub PATH-CONTENTS : ℕ
PATH-CONTENTS = 16

-- the contents of the field of a ring standing ("Sheet and graph bytes")
abbrev pub RING-CONTENTS : ℕ
RING-CONTENTS = 266

-- the bytes of the field of a path standing ("Sheet and graph bytes")
abbrev pub PATH-FIELD : ℕ
PATH-FIELD = 19

-- the bytes of the field of a ring standing ("Sheet and graph bytes")
abbrev pub RING-FIELD : ℕ
RING-FIELD = 269

-- the standings of the largest allowance, and of the longest sheet ("Standings", and refusal 13)
abbrev pub MOST-STANDINGS : ℕ
MOST-STANDINGS = 4096

-- the words of working memory for a ring claim at the largest allowance ("Standings")
abbrev pub MOST-WORDS : ℕ
MOST-WORDS = 163840

-- the bytes of the longest sheet, of a ring claim at the largest allowance ("Sheet and graph bytes")
abbrev pub LONGEST-SHEET : ℕ
LONGEST-SHEET = 1101828

-- the bytes of the longest query ("The query")
abbrev pub LONGEST-QUERY : ℕ
LONGEST-QUERY = 4096

-- the allowance of the query program, where none is given ("The desk's cases")
abbrev pub PROGRAM-ALLOWANCE : ℕ
PROGRAM-ALLOWANCE = 200

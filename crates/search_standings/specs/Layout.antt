-- Where the parts of a standing are among its words, by name. (Document 01, "Standings".) A path standing is two words, P and S. Of a ring
-- standing word 0 is P, and the words from 1 to before WIDTH are the columns of its occurrences; behind them are its first atom and Z, and in
-- memory the place of its parent and its letter. The places in a ring standing have the same names in
-- the code.
-- Assumes nothing.
use Rattle.std.specs.Prelude.{ℕ}

-- how many words a path standing is
abbrev pub PATH-TOLD : ℕ
PATH-TOLD = 2

-- the first atom of a ring standing
abbrev pub FIRST : ℕ
FIRST = 32

-- Z of a ring standing
abbrev pub FLAG : ℕ
FLAG = 33

-- how many words tell one ring standing from another
abbrev pub TOLD : ℕ
TOLD = 34

-- the place of a ring standing's parent
abbrev pub PARENT : ℕ
PARENT = 34

-- the letter of a ring standing
abbrev pub LETTER : ℕ
LETTER = 35

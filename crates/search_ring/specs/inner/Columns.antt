-- The memory of a ring standing as the functions of this crate change it: words joined into the columns, and the three other words of a ring
-- standing put in their places. (Document 01, "Standings".)
-- Assumes nothing.
use Rattle.std.specs.Prelude.{ℕ, ◌+◌, ◌-◌, Bool, cond, ◌&&◌, List, ltb, get_or, set}
use Rattle.std.specs.Int.Bits.{bit_or}
use Rattle.claims.specs.Query.{bit}
use Rattle.claims.specs.Standings.{Letter}
use Rattle.memory.specs.Memory.{words, between}
use Rattle.standings.specs.Steps.{joined}
use Rattle.layout.specs.Layout.{WIDTH, MOST-RIGHT, RING-WORDS}
use Rattle.search_standings.specs.Layout.{FIRST, FLAG}

-- column k + 1 joined with w, where there is such a column
unfoldable pub column_joined : List ℕ → ℕ → ℕ → List ℕ
column_joined to k w = cond (ltb k MOST-RIGHT) (set to (k + 1) (bit_or (get_or to (k + 1) 0) w)) to

-- word i is the column of an occurrence of s
unfoldable pub column_of : ℕ → ℕ → Bool
column_of s i = between 1 WIDTH i && bit (i - 1) s

-- the columns of the occurrences of s joined with w
unfoldable pub pushed : List ℕ → ℕ → ℕ → List ℕ
pushed to s w = words RING-WORDS (λ i. bit_or (get_or to i 0) (cond (column_of s i) w 0))

-- each column joined with what w has for those numbers of the list from which it is read
unfoldable pub spread_over : List ℕ → Letter → (ℕ → ℕ) → List ℕ → List ℕ → List ℕ
spread_over right l w os to = words RING-WORDS (λ i. bit_or (get_or to i 0) (cond (between 1 WIDTH i) (joined right l w i os) 0))

-- P, the first atom and Z in their places
unfoldable pub laid_out : List ℕ → ℕ → ℕ → ℕ → List ℕ
laid_out to p first z = set (set (set to 0 p) FIRST first) FLAG z

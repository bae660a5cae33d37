-- The rows of N as the functions of this crate change them. (Document 01, "Standings".)
-- Assumes nothing.
use Rattle.std.specs.Prelude.{ℕ, ◌-◌, Bool, cond, not, ◌&&◌, List, eqb, get_or, set}
use Rattle.std.specs.Int.Bits.{bit_or}
use Rattle.claims.specs.Query.{bit}
use Rattle.claims.specs.Standings.{Letter}
use Rattle.memory.specs.Memory.{words}
use Rattle.standings.specs.Steps.{joined}
use Rattle.layout.specs.Layout.{WIDTH}

-- row k joined with w, where there is such a row
unfoldable pub row_joined : List ℕ → ℕ → ℕ → List ℕ
row_joined to k w = set to k (bit_or (get_or to k 0) w)

-- row i is the row of an occurrence of s
unfoldable pub row_of : ℕ → ℕ → Bool
row_of s i = not (eqb i 0) && bit (i - 1) s

-- the rows of the occurrences of s joined with w
unfoldable pub pushed : List ℕ → ℕ → ℕ → List ℕ
pushed to s w = words WIDTH (λ i. bit_or (get_or to i 0) (cond (row_of s i) w 0))

-- each row but row 0 joined with what w has for those numbers of the list from which it is read
unfoldable pub spread_over : List ℕ → Letter → (ℕ → ℕ) → List ℕ → List ℕ → List ℕ
spread_over right l w os to = words WIDTH (λ i. bit_or (get_or to i 0) (cond (eqb i 0) 0 (joined right l w i os)))

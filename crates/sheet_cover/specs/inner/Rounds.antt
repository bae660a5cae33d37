-- The turns of M on its rows: a table of words t has x before y where word x has bit y. A round through k joins each row that has k with
-- row k; the rounds through the numbers below hi close the table. (Document 01, "Standings".) And what the cover test seeks in the closed
-- table.
-- Assumes nothing.
use Rattle.std.specs.Prelude.{ℕ, zero, suc, ◌-◌, Bool, cond, ◌&&◌, ◌||◌, List, eqb, get_or}
use Rattle.std.specs.Int.Bits.{bit_or}
use Rattle.kat.specs.Lists.{upto, some}
use Rattle.claims.specs.Query.{bit}
use Rattle.memory.specs.Memory.{changed}
use Rattle.sheet_standings.specs.RingCells.{row_n}

-- the rows below hi that have k, joined with c
unfoldable pub joined_where : List ℕ → ℕ → ℕ → ℕ → List ℕ
joined_where t c k hi = changed (λ x w. bit_or w (cond (bit k w) c 0)) t 0 hi

-- a round through k: the rows below hi that have k, joined with row k
unfoldable pub round : List ℕ → ℕ → ℕ → List ℕ
round t k hi = joined_where t (get_or t k 0) k hi

-- the rounds through the numbers below k
unfoldable pub rounds : List ℕ → ℕ → ℕ → List ℕ
rounds t hi zero = t
rounds t hi (suc k) = round (rounds t hi k) k hi

-- the row w of 0 has one of the occurrences of e, up to m
unfoldable pub ends_by : ℕ → ℕ → ℕ → Bool
ends_by w e m = some (λ q. bit q w && bit (q - 1) e) (upto 1 (suc m))

-- for some pair (q, p) of the row v of N, with p up to m, p is q or the row w of q has it
unfoldable pub pairs_of : ℕ → ℕ → ℕ → ℕ → Bool
pairs_of w v q m = some (λ p. bit p v && (eqb q p || bit p w)) (upto 0 (suc m))

-- for some pair (q, p), both up to m, p is q or q leads to it
unfoldable pub pairs_by : List ℕ → List ℕ → ℕ → Bool
pairs_by t s m = some (λ q. pairs_of (get_or t q 0) (row_n s q) q m) (upto 1 (suc m))

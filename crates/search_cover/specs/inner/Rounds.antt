-- The turns of M on its columns: a table of words t has x before y where word y has bit x. A round through k joins each column that has k
-- with column k; the rounds through the numbers below hi close the table. (Document 01, "Standings".) And what the cover test seeks in
-- the closed table.
-- Assumes nothing.
use Rattle.std.specs.Prelude.{ℕ, zero, suc, ◌+◌, ◌-◌, Bool, cond, ◌&&◌, ◌||◌, List, eqb, get_or}
use Rattle.std.specs.Int.Bits.{bit_or}
use Rattle.kat.specs.Lists.{upto, some}
use Rattle.claims.specs.Query.{bit}
use Rattle.memory.specs.Memory.{changed}
use Rattle.layout.specs.Layout.{WIDTH}

-- the columns below hi that have k, joined with c
unfoldable pub joined_where : List ℕ → ℕ → ℕ → ℕ → List ℕ
joined_where t c k hi = changed (λ y w. bit_or w (cond (bit k w) c 0)) t 0 hi

-- a round through k: the columns below hi that have k, joined with column k
unfoldable pub round : List ℕ → ℕ → ℕ → List ℕ
round t k hi = joined_where t (get_or t k 0) k hi

-- the rounds through the numbers below k
unfoldable pub rounds : List ℕ → ℕ → ℕ → List ℕ
rounds t hi zero = t
rounds t hi (suc k) = round (rounds t hi k) k hi

-- 0 leads to one of the occurrences of e, up to m
unfoldable pub ends_by : List ℕ → ℕ → ℕ → Bool
ends_by t e m = some (λ q. bit 0 (get_or t q 0) && bit (q - 1) e) (upto 1 (suc m))

-- for some pair (q, p) of the column w of q, with p up to m, p is q or q leads to it
unfoldable pub pairs_of : List ℕ → ℕ → ℕ → ℕ → Bool
pairs_of t w q m = some (λ p. bit (WIDTH + p) w && (eqb q p || bit q (get_or t p 0))) (upto 0 (suc m))

-- for some pair (q, p), both up to m, p is q or q leads to it
unfoldable pub pairs_by : List ℕ → List ℕ → ℕ → Bool
pairs_by t s m = some (λ q. pairs_of t (get_or s q 0) q m) (upto 1 (suc m))

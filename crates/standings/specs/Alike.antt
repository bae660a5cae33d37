-- When two atoms lead to the same occurrences, by the table of a side, and the set gathered from a list by a test. (Document 01, "Standings".)
-- The search and the sheet check, each by its own code, try of atoms that are alike the lowest alone; what is alike is said here for both.
-- Assumes nothing.
use Rattle.std.specs.Prelude.{ℕ, suc, min, Bool, true, cond, not, ◌&&◌, List, [], ◌∷◌, eqb}
use Rattle.std.specs.Bool.{beq}
use Rattle.std.specs.Int.Bits.{bit_and}
use Rattle.kat.specs.Lists.{upto, some, every}
use Rattle.bits.specs.Sets.{including, all_below, members}
use Rattle.standings.specs.Steps.{step_from, enders, null_at}

-- after p, the same occurrences that read r may come next at atom a and at atom b ("Standings")
unfoldable pub row_alike : List ℕ → ℕ → ℕ → ℕ → ℕ → Bool
row_alike t r a b p = eqb (step_from t p a r) (step_from t p b r)

-- so after each p, from 0 to n, of a side with n occurrences; it has at most 64 ("Standings")
unfoldable pub rows_alike : List ℕ → ℕ → ℕ → ℕ → ℕ → Bool
rows_alike t n r a b = every (row_alike t r a b) (upto 0 (suc (min n 64)))

-- both or neither of the single atoms a and b are words, and the same occurrences may be last at a and at b ("Standings")
unfoldable pub ends_alike : List ℕ → ℕ → ℕ → Bool
ends_alike t a b = beq (null_at t a) (null_at t b) && eqb (enders t a) (enders t b)

-- atoms a and b are alike before r, with n left and m right occurrences; in a ring claim also the right words that end there are ("Standings")
abbrev pub alike_at : Bool → ℕ → ℕ → List ℕ → List ℕ → ℕ → ℕ → ℕ → Bool
alike_at ring n m left right r a b = cond ring (ends_alike right a b) true && rows_alike left n r a b && rows_alike right m r a b

-- no member of a set below a is alike ("Standings")
abbrev pub no_lower : (ℕ → ℕ → Bool) → ℕ → ℕ → Bool
no_lower alike s a = not (some (alike a) (members (bit_and s (all_below 64 a))))

-- the set m with those of the numbers listed that pass a test ("Standings")
unfoldable pub gathered : (ℕ → Bool) → List ℕ → ℕ → ℕ
gathered p [] m = m
gathered p (a ∷ as') m = gathered p as' (cond (p a) (including 64 m a) m)

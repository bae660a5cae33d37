-- A set of numbers below 64 as one number: k is a member where bit k is set. A table of such sets is a list of rows; a row past its
-- end is empty. In a set, members are taken lowest number first. (Document 01, "Standings".)
-- Assumes nothing.
use Rattle.std.specs.Prelude.{ℕ, ◌-◌, ◌^◌, min, Bool, cond, not, List, [], ◌∷◌, eqb, ltb, get_or}
use Rattle.std.specs.Int.Bits.{bit_and, bit_or}
use Rattle.kat.specs.Lists.{some}
use Rattle.claims.specs.Query.{bit}
use Rattle.claims.specs.Fields.{number_set}

-- the set with k in it, where k is below w
unfoldable pub including : ℕ → ℕ → ℕ → ℕ
including w s k = cond (ltb k w) (bit_or s (2 ^ k)) s

-- all numbers below n, and below w
unfoldable pub all_below : ℕ → ℕ → ℕ
all_below w n = 2 ^ min n w - 1

-- the members of a set of numbers below 64, rising
abbrev pub members : ℕ → List ℕ
members s = number_set 0 64 s

-- row k
abbrev pub row : List ℕ → ℕ → ℕ
row rows k = get_or rows k 0

-- the union of the rows of the numbers listed
unfoldable pub union_over : List ℕ → List ℕ → ℕ
union_over rows [] = 0
union_over rows (k ∷ ks) = bit_or (row rows k) (union_over rows ks)

-- the union of the rows of the members of s
unfoldable pub union_rows : List ℕ → ℕ → ℕ
union_rows rows s = union_over rows (members s)

-- two sets have a member in common
unfoldable pub meets : ℕ → ℕ → Bool
meets s t = not (eqb (bit_and s t) 0)

-- the row of some member of s has a member in common with t
unfoldable pub meets_rows : List ℕ → ℕ → ℕ → Bool
meets_rows rows s t = some (λ k. meets (row rows k) t) (members s)

-- k is in the row of some member of s
unfoldable pub any_member : List ℕ → ℕ → ℕ → Bool
any_member rows s k = some (λ p. bit k (row rows p)) (members s)

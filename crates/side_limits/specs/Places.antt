-- What the expressions of a query count, by the places in its codes where they start: a claim and the assumptions are found by the same places from
-- which their tables are built. (Document 01, "Standings", Limits; the places are those of the crate `side_items`.)
-- Assumes nothing.
use Rattle.std.specs.Prelude.{ℕ, ◌+◌, Bool, cond, List, [], ◌∷◌, ltb, drop}
use Rattle.codes.specs.Codes.{LINE}
use Rattle.side_items.specs.Items.{starts_of}
use Rattle.side_runs.specs.Program.{counts_from}

-- what codes count together up to the first that ends a line, or the left side of an inclusion, where each counts what f gives it
unfoldable pub until_end : (ℕ → ℕ) → List ℕ → ℕ
until_end f [] = 0
until_end f (k ∷ ks) = cond (ltb k LINE) (f k + until_end f ks) 0

-- the expression at a place
unfoldable pub count_at : (ℕ → ℕ) → List ℕ → ℕ → ℕ
count_at f ks from = until_end f (drop from ks)

-- the expressions at several places
unfoldable pub count_all : (ℕ → ℕ) → List ℕ → List ℕ → ℕ
count_all f ks [] = 0
count_all f ks (s ∷ ss) = count_at f ks s + count_all f ks ss

-- line l counts as an assumption: it is not in the set of the lines left out
unfoldable pub not_out : List ℕ → ℕ → Bool
not_out out l = counts_from 0 out l

-- the expressions that end with the code k, of the lines that are not left out
unfoldable pub count_kind : (ℕ → ℕ) → List ℕ → List ℕ → ℕ → ℕ
count_kind f ks out k = count_all f ks (starts_of (not_out out) k ks)

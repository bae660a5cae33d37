-- A program in memory: the codes of a query, and behind one another what each of them needs, the sets of the relations and the set of the lines
-- that are left out of the assumptions. It is defined for any memory: past its end stands 0.
-- Assumes nothing.
use Rattle.std.specs.Prelude.{ℕ, ◌+◌, ◌/◌, ◌%◌, Bool, not, List, ◌++◌, length, get_or, drop}
use Rattle.claims.specs.Query.{bit}
use Rattle.codes.specs.Codes.{RELATION-SETS}
use Rattle.side_items.specs.Items.{Item, paired}
use Rattle.memory.specs.Memory.{zeros}

-- each code with what it needs
unfoldable pub items_in : List ℕ → List ℕ → List Item
items_in ks ns = paired ks (ns ++ zeros (length ks))

-- the sets of the relations, and what stands behind them
unfoldable pub sets_in : List ℕ → List ℕ → List ℕ
sets_in ks ns = drop (length ks) ns

-- line l, counted from 0, counts as an assumption: it is not in the set of the lines left out, which stands from `from` on and has it as bit l % 64
-- of its word l / 64
unfoldable pub counts_from : ℕ → List ℕ → ℕ → Bool
counts_from from ws l = not (bit (l % 64) (get_or ws (from + l / 64) 0))

-- the same in a program
unfoldable pub counts_in : List ℕ → List ℕ → ℕ → Bool
counts_in ks ns l = counts_from (length ks + RELATION-SETS) ns l

-- Building the table of the expressions of a query: the codes from a place to the end of the line, where a let stands for the codes of its own
-- line, which comes before. (Document 01, "Words": lets are expanded.)
-- Assumes nothing.
use Rattle.std.specs.Prelude.{ℕ, zero, suc, cond, List, [], ◌∷◌, ltb, length, drop}
use Rattle.side_parts.specs.Machine.{Machine, given, united}
use Rattle.side_items.specs.Items.{Item}
use Rattle.side_runs.specs.Performing.{perform}

-- the items from a place on; a let is built only from a place before, and d bounds how many lets stand in one another
unfoldable pub execute : ℕ → List ℕ → List Item → ℕ → Machine → Machine
execute zero rels is from m = m
execute (suc d) rels is from m = perform (λ s n. cond (ltb s from) (execute d rels is s n) n) rels (drop from is) m

-- the expression at a place: no more lets stand in one another than places before it
unfoldable pub execute_at : List ℕ → List Item → ℕ → Machine → Machine
execute_at rels is from m = execute (suc from) rels is from m

-- several expressions one after another
unfoldable pub execute_all : List ℕ → List Item → List ℕ → Machine → Machine
execute_all rels is [] m = m
execute_all rels is (s ∷ ss) m = execute_all rels is ss (execute_at rels is s m)

-- the two parts on top united, n times
unfoldable pub united_times : ℕ → Machine → Machine
united_times zero m = m
united_times (suc n) m = united_times n (united m)

-- the union of several expressions, which of none is `[false]`
unfoldable pub execute_union : List ℕ → List Item → List ℕ → Machine → Machine
execute_union rels is ss m = united_times (length ss) (given 0 (execute_all rels is ss m))

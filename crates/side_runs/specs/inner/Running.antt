-- What a run of items in memory leaves there: of all items of a line, and of one of them.
-- Assumes nothing.
use Rattle.std.specs.Prelude.{ℕ, ◌≤◌, ◌<◌, ◌≡◌, true, cond, List, ltb, get_or}
use Rattle.side_parts.specs.Machine.{Machine}
use Rattle.side_items.specs.Items.{Item, of_test}
use Rattle.side_runs.specs.Program.{items_in, sets_in}
use Rattle.side_runs.specs.Performing.{performed}
use Rattle.side_runs.specs.Execution.{execute}

-- from place i to before r stand only codes of a T
abbrev pub Skipped : List ℕ → ℕ → ℕ → Type 0
Skipped ks i r = (i ≤ r) × ((j : ℕ) → i ≤ j → j < r → of_test (get_or ks j 0) ≡ true)

-- the item at place i
abbrev pub item_at : List ℕ → List ℕ → ℕ → Item
item_at ks ns i = record { code = get_or ks i 0; arg = get_or ns i 0 }

-- a let in a line that starts at `from`: it is built only from a place before
abbrev pub let_before : ℕ → List ℕ → List Item → ℕ → ℕ → Machine → Machine
let_before d rels is from s n = cond (ltb s from) (execute d rels is s n) n

-- n is what the items from `from` on make of m
abbrev pub LineRan : List ℕ → List ℕ → ℕ → Machine → Machine → Type 0
LineRan ks ns from m n = (d : ℕ) → from < d → n ≡ execute d (sets_in ks ns) (items_in ks ns) from m

-- n is what the item at place i, in a line that starts at `from`, makes of m
abbrev pub ItemRan : List ℕ → List ℕ → ℕ → ℕ → Machine → Machine → Type 0
ItemRan ks ns from i m n =
    (d : ℕ) → from ≤ d → n ≡ performed (let_before d (sets_in ks ns) (items_in ks ns) from) (sets_in ks ns) (item_at ks ns i) m

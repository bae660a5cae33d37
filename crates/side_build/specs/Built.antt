-- What is built from a program: the table of an expression at a place, and of the two sides of a decision. (Document 01, "Words" and
-- "Standings".) And what is built from the codes of a query: the table of each side of its claim, how many occurrences each has, and the
-- atoms that no `never` removes. It is defined for any codes; `proofs/Decided.antt` has the theorem that of the codes of a query within
-- the limits it is what document 01 says.
-- Assumes nothing.
use Rattle.std.specs.Prelude.{ℕ, List, ◌++◌}
use Rattle.side_items.specs.Items.{args_of, items_of}
use Rattle.side_relations.specs.Relations.{relation_sets, removed_set, live_set}
use Rattle.side_parts.specs.Machine.{nothing_built, told_table}
use Rattle.side_claim.specs.Sides.{claimed, placed, left_machine, right_machine}
use Rattle.side_claim.specs.declared.Decision.{Decision}
use Rattle.side_build.specs.declared.Built.{Built}
use Rattle.side_build.specs.declared.Counted.{Counted}

-- what the codes need, and the sets of the relations; no line is left out
unfoldable pub needs_of : List ℕ → List ℕ
needs_of ks = args_of ks ++ relation_sets (items_of ks)

-- the table of the expression at a place of a program
unfoldable pub table_at : List ℕ → List ℕ → ℕ → List ℕ
table_at ks ns from = told_table (placed ks ns from nothing_built)

-- the table of each side of a decision, and how many occurrences it has
unfoldable pub left_of : List ℕ → List ℕ → Decision → List ℕ
left_of ks ns d = told_table (left_machine ks ns d)

unfoldable pub right_of : List ℕ → List ℕ → Decision → List ℕ
right_of ks ns d = told_table (right_machine ks ns d)

unfoldable pub counted_in : List ℕ → List ℕ → Decision → Counted
counted_in ks ns d = record { left = (left_machine ks ns d).used; right = (right_machine ks ns d).used }

-- of the claim of a query
unfoldable pub left_table : List ℕ → List ℕ
left_table ks = left_of ks (needs_of ks) (claimed ks)

unfoldable pub right_table : List ℕ → List ℕ
right_table ks = right_of ks (needs_of ks) (claimed ks)

-- the occurrences of each, and which atoms of so many tests are left
unfoldable pub built_from : ℕ → List ℕ → Built
built_from tests ks =
    let c = counted_in ks (needs_of ks) (claimed ks) in
    record { left = c.left; right = c.right; live = live_set tests (removed_set (items_of ks)) }

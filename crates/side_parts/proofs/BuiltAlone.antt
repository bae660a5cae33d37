-- What is built when nothing was there before: the table of the expression, as many occurrences as it has, and on top the set of the atoms that
-- are words of it. That set is right too where the table has no room for all occurrences.
-- Assumes nothing.
use Prim.Native.Nat.{ℕ, ◌≤◌}
use native.Mathlib.Omega.{arith}
use mathlib.Core.Path.{◌≡◌, refl, ap}
use mathlib.Core.List.{List}
use Rattle.kat.specs.Expr.{Expr, none as nowhere}
use Rattle.kat.specs.Tables.{occurrences, null}
use Rattle.side_atoms.specs.Atoms.{atoms_of}
use Rattle.side_tables.specs.SideTable.{side_table}
use Rattle.side_tables.proofs.Shows.{shows_nothing}
use Rattle.side_tables.proofs.SideTable.{told_table_lem}
use Rattle.side_stack.specs.Stack.{top_part}
use Rattle.side_stack.specs.declared.Part.{Part}
use Rattle.side_parts.specs.Machine.{Machine, nothing_built, told_table}
use Rattle.side_parts.proofs.Builds.{Built, Builds}

-- the set on top
pub built_null : {E : Expr} {m n : Machine} → Built E m n → (top_part n.stack).null ≡ atoms_of (null E)
unfolding top_part
built_null x = ap (λ (st : List Part). (top_part st).null) x.stack

-- the table that is told in the end
pub built_alone : {E : Expr} {n : Machine} → Built E nothing_built n → occurrences E ≤ 64
    → (n.used ≡ occurrences E) × (told_table n ≡ side_table E)
unfolding nothing_built told_table
built_alone {E} {n} x h = (
  omega (arith, x.used),
  told_table_lem E n.table h (x.tabled nowhere refl (omega arith) shows_nothing) (top_part n.stack).null (built_null x),
)

pub builds_on_nothing : {j : ℕ} {F : Machine → Machine} {E : Expr} → Builds j F E → j ≤ 544 → Built E nothing_built (F nothing_built)
unfolding nothing_built
builds_on_nothing x h = x.built nothing_built (omega arith) (omega arith)

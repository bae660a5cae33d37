-- What it means that a function on machines builds an expression: it puts one part on top, with the expression's occurrences and the set of the
-- atoms that are words of it; and where the table has room for the occurrences and showed the parts that waited, it shows the expression
-- beside them.
-- Assumes nothing.
use Prim.Native.Nat.{ℕ, ◌+◌, ◌≤◌, ◌<◌, min}
use mathlib.Core.Path.{◌≡◌}
use mathlib.Core.Bool.{Bool, true}
use mathlib.Core.List.{◌∷◌}
use lib.ListN.{length}
use Rattle.kat.specs.Expr.{Expr, alt}
use Rattle.kat.specs.Tables.{occurrences, null}
use Rattle.side_atoms.specs.Atoms.{atoms_of}
use Rattle.side_tables.proofs.Shows.{Shows}
use Rattle.side_tables.proofs.ShowsRepeated.{Looped}
use Rattle.side_parts.specs.Machine.{Machine}

-- E, built on top of m
pub record Built (E : Expr) (m n : Machine) : Type 0 where
  pub loops : Bool
  pub used : n.used ≡ min (m.used + occurrences E) 64
  pub stack : n.stack ≡ record { low = m.used; null = atoms_of (null E); looped = loops } ∷ m.stack
  pub looped : loops ≡ true → Looped E
  pub tabled : (U : Expr) → 0 + occurrences U ≡ m.used → m.used + occurrences E ≤ 64 → Shows U m.table → Shows (alt U E) n.table

-- F builds E with no more than j further parts at a time, from every machine that has room for them
pub record Builds (j : ℕ) (F : Machine → Machine) (E : Expr) : Type 0 where
  pub some : 0 < j
  pub built : (m : Machine) → length m.stack + j ≤ 544 → m.used ≤ 64 → Built E m (F m)

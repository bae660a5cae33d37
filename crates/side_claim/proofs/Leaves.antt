-- A union of expressions has no more occurrences than leaves.
-- Assumes nothing.
use Prim.Native.Nat.{◌≤◌}
use native.Mathlib.Omega.{arith}
use mathlib.Core.List.{List, [], ◌∷◌}
use Rattle.kat.specs.Tables.{occurrences}
use Rattle.claims.specs.Tree.{Tree}
use Rattle.claims.specs.Query.{Query}
use Rattle.claims.specs.Sides.{union_all}
use Rattle.claims.specs.Counting.{leaves_of, total}
use Rattle.claims.proofs.Counts.{occurrences_few}

pub union_occurrences_few : (q : Query) (es : List Tree) → occurrences (union_all q es) ≤ total (leaves_of q) es
union_occurrences_few q [] = omega arith
union_occurrences_few q (e ∷ es) = omega (arith, occurrences_few q e, union_occurrences_few q es)

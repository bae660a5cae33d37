-- `side_tables::add_letters` meets its contract. The invariant: the relations that are left, marked in the table as it is, are all of them marked
-- in the table at the start.
-- Assumes nothing.
use Rattle.side_tables.specs.InPlace.{lettered_at}
use Rattle.memory.specs.Memory.{for_each}
use Rattle.kat.specs.Lists.{upto}
use lib.ListN.{length}
use mathlib.Core.Path.{◌≡◌}
use Prim.Native.Nat.{◌≤◌}
use Rattle.side_tables.proofs.add_letters.Given as goal

abbrev pub invariant-loop-r : goal.invariant-loop-r
invariant-loop-r l = (l.r ≤ 16) × (length l.table ≡ length l.initial.table) × (for_each (lettered_at l.k l.s) (upto l.r 16) l.table ≡ for_each (lettered_at l.k l.s) (upto 0 16) l.initial.table)

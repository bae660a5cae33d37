-- `side_tables::join_atoms` meets its contract. The invariant: the atoms that are left, changed in the table as it is, are all of them changed in the
-- table at the start.
-- Assumes nothing.
use Rattle.side_tables.specs.InPlace.{joined_at, joined}
use Rattle.memory.specs.Memory.{for_each}
use Rattle.kat.specs.Lists.{upto}
use Rattle.side_tables.specs.Layout.{TABLE}
use lib.ListN.{length}
use mathlib.Core.Path.{◌≡◌}
use Prim.Native.Nat.{◌≤◌}
use Rattle.side_tables.proofs.join_atoms.Given as goal

abbrev pub invariant-loop-a : goal.invariant-loop-a
invariant-loop-a l = (l.a ≤ 64) × (length l.table ≡ TABLE) × (for_each (joined_at l.from l.to) (upto l.a 64) l.table ≡ joined l.from l.to l.initial.table)

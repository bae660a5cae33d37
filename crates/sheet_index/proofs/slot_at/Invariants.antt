-- `sheet_index::slot_at` meets its contract. The invariant: the hash, with the cells that are left, is that of all.
-- Assumes nothing.
use Rattle.sheet_index.specs.Index.{hash_from}
use Rattle.fields.specs.Places.{cells_at}
use lib.ListN.{drop}
use Prim.Native.Nat.{◌<◌}
use mathlib.Core.Path.{◌≡◌}
use Rattle.sheet_index.proofs.slot_at.Given as goal

abbrev pub invariant-loop-j : goal.invariant-loop-j
invariant-loop-j l =
    (l.h < 4294967296) × (hash_from l.h (drop l.j (cells_at l.sheet l.from l.n)) ≡ hash_from 0 (cells_at l.sheet l.from l.n))

-- `sheet_index::slot_of` meets its contract. The invariant: the hash, with the cells that are left, is that of all.
-- Assumes nothing.
use Rattle.sheet_index.specs.Index.{hash_from}
use lib.ListN.{drop, take}
use Prim.Native.Nat.{◌<◌}
use mathlib.Core.Path.{◌≡◌}
use Rattle.sheet_index.proofs.slot_of.Given as goal

abbrev pub invariant-loop-c : goal.invariant-loop-c
invariant-loop-c l =
    (l.h < 4294967296) × (hash_from l.h (drop l.c-index (take l.n l.cells)) ≡ hash_from 0 (take l.n l.cells))

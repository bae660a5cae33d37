-- `side_limits::add_limits` meets its contract. The invariant: the table has what the `within` lines among the codes passed give the relations. The
-- measure is what is left of the codes.
-- Assumes nothing.
use Prim.Native.Nat.{◌≤◌}
use mathlib.Core.Path.{◌≡◌}
use mathlib.Core.List.{[]}
use lib.ListN.{length, take}
use Rattle.side_limits.specs.Tally.{relation_count}
use Rattle.side_limits.specs.inner.CappedSums.{Table}
use Rattle.side_limits.proofs.add_limits.Given as goal

abbrev pub invariant-loop-k : goal.invariant-loop-k
invariant-loop-k l = (l.k-index ≤ length l.codes) × (length l.table ≡ length l.initial.table) × Table l.test (relation_count l.test (take l.k-index l.codes)) [] l.table

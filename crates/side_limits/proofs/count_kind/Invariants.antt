-- `side_limits::count_kind` meets its contract. The invariant: what is left of the expressions, added to the sum, is all of them. The measure is what
-- is left of the codes.
-- Assumes nothing.
use Prim.Native.Nat.{◌≤◌}
use lib.ListN.{length}
use Rattle.side_limits.specs.inner.CappedSums.{in_table}
use Rattle.side_limits.proofs.PlaceSums.{SummedKind}
use Rattle.side_limits.proofs.count_kind.Given as goal

abbrev pub invariant-loop-i : goal.invariant-loop-i
invariant-loop-i l =
    (l.i ≤ length l.codes) × (l.line ≤ l.i) × SummedKind (in_table l.table) l.codes l.out l.kind l.i l.start l.line l.sum

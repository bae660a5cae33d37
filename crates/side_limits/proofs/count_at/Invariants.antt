-- `side_limits::count_at` meets its contract. The invariant: what is left of the expression, added to the sum, is all of it. The measure is what is
-- left of the codes.
-- Assumes nothing.
use Rattle.side_limits.specs.inner.CappedSums.{in_table}
use Rattle.side_limits.proofs.PlaceSums.{Summed}
use Rattle.side_limits.proofs.count_at.Given as goal

abbrev pub invariant-loop-i : goal.invariant-loop-i
invariant-loop-i l = Summed (in_table l.table) l.codes l.from l.i l.sum

-- `side_limits::start_table` meets its contract. The invariant: the relations below place i count 1, and all else nothing. The measure is how
-- many are left.
-- Assumes nothing.
use Prim.Native.Nat.{◌≤◌}
use mathlib.Core.Path.{◌≡◌}
use lib.ListN.{length}
use Rattle.side_limits.proofs.Tables.{Ones}
use Rattle.side_limits.proofs.start_table.Given as goal

abbrev pub invariant-loop-i : goal.invariant-loop-i
invariant-loop-i l = (32 ≤ l.i) × (l.i ≤ 48) × (length l.table ≡ length l.initial.table) × Ones l.i l.table

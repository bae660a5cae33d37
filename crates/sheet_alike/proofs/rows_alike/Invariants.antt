-- `sheet_alike::rows_alike` meets its contract. The invariant: the places left are alike exactly where all are.
-- Assumes nothing.
use mathlib.Core.Path.{◌≡◌}
use Rattle.kat.specs.Lists.{upto, every}
use Rattle.standings.specs.Alike.{row_alike, rows_alike}
use Rattle.sheet_alike.proofs.rows_alike.Given as goal

abbrev pub invariant-loop-p : goal.invariant-loop-p
invariant-loop-p l = every (row_alike l.table l.r l.a l.b) (upto l.p l.end) ≡ rows_alike l.table l.n l.r l.a l.b

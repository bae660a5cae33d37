-- `draw_rows::fill` meets its contract. The invariant: the relations so far are filled.
-- Assumes nothing.
use Prim.Native.Nat.{◌≤◌}
use mathlib.Core.Path.{◌≡◌}
use lib.ListN.{length}
use Rattle.draw_rows.proofs.Tables.{Filled}
use Rattle.draw_rows.proofs.fill.Given as goal

abbrev pub invariant-loop-r : goal.invariant-loop-r
invariant-loop-r l = (length l.tables ≡ length l.initial.tables) × (l.r ≤ length l.initial.tables) × Filled l.word l.n l.closed l.r l.tables

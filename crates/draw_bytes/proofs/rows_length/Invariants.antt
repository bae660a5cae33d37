-- `draw_bytes::rows_length` meets its contract. The invariant: what was counted, and the length of what is left, is the length of all.
-- Assumes nothing.
use Prim.Native.Nat.{ℕ, ◌+◌, ◌*◌, ◌≤◌}
use mathlib.Core.Path.{◌≡◌}
use lib.ListN.{length}
use Rattle.kat.specs.Lists.{upto}
use Rattle.claims.specs.GraphWriting.{joined}
use Rattle.draw_bytes.specs.Fields.{rows_bytes}
use Rattle.draw_bytes.proofs.Pieces.{a_row}
use Rattle.draw_bytes.proofs.rows_length.Given as goal

abbrev pub invariant-loop-x : goal.invariant-loop-x
invariant-loop-x l = (l.x ≤ l.n) × (l.sum ≤ 384 * l.x) × ((r : ℕ) → l.sum + length (joined (a_row r l.rows) (upto l.x l.n)) ≡ length (rows_bytes r l.n l.rows))

-- `draw_bytes::graph_length` meets its contract. The invariant: what was counted, and the length of what is left, is the length of all.
-- Assumes nothing.
use Prim.Native.Nat.{ℕ, ◌+◌, ◌*◌, ◌≤◌}
use mathlib.Core.Path.{◌≡◌}
use mathlib.Core.List.{List}
use lib.ListN.{length}
use Rattle.kat.specs.Lists.{upto}
use Rattle.claims.specs.GraphWriting.{joined}
use Rattle.draw_rows.specs.Rows.{table_at}
use Rattle.draw_bytes.specs.Bytes.{relation_bytes, bytes_of}
use Rattle.draw_bytes.proofs.graph_length.Given as goal

abbrev pub invariant-loop-r : goal.invariant-loop-r
invariant-loop-r l =
    (l.r ≤ l.relations) × (l.sum ≤ 1020 + 97920 * l.r)
    × ((bs : List ℕ) → l.sum + length (joined (relation_bytes l.n (table_at l.tables)) (upto l.r l.relations)) ≡ length (bytes_of bs l.n (table_at l.tables) l.relations))

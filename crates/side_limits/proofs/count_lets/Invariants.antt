-- `side_limits::count_lets` meets its contract. The invariant: for whatever a bracketed test and the relations count, the table and the sum follow the
-- walk over the codes passed, and there were no more lets than codes.
-- Assumes nothing.
use Prim.Native.Nat.{ℕ, ◌≤◌}
use mathlib.Core.Path.{◌≡◌}
use mathlib.Core.List.{[]}
use lib.ListN.{length, take}
use Rattle.side_limits.specs.Tally.{tally}
use Rattle.side_limits.specs.inner.CappedSums.{Table}
use Rattle.side_limits.proofs.Tables.{Follows}
use Rattle.side_limits.proofs.count_lets.Given as goal

abbrev pub invariant-loop-k : goal.invariant-loop-k
invariant-loop-k l =
    (l.k-index ≤ length l.codes) × (l.n ≤ l.k-index) × (length l.table ≡ length l.initial.table)
    × ((t : ℕ) (w : ℕ → ℕ) → Table t w [] l.initial.table → Follows t w (tally t w (take l.k-index l.codes)) l.sum l.n l.table)

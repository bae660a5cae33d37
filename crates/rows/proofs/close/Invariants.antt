-- `rows::close` meets its contract. The invariant: the memory is that after the rounds done so far.
-- Assumes nothing.
use Prim.Native.Nat.{◌≤◌}
use mathlib.Core.Path.{◌≡◌}
use lib.ListN.{length}
use Rattle.rows.specs.Rows.{rounds}
use Rattle.rows.proofs.close.Given as goal

abbrev pub invariant-loop-k : goal.invariant-loop-k
invariant-loop-k l = (length l.t ≡ length l.initial.t) × (l.k ≤ l.n) × (l.t ≡ rounds l.initial.t l.n l.k)

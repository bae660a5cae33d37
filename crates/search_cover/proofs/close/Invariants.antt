-- `search_cover::close` meets its contract. The invariant: the memory is that after the rounds done so far.
-- Assumes nothing.
use Prim.Native.Nat.{◌≤◌}
use mathlib.Core.Path.{◌≡◌}
use lib.ListN.{length}
use Rattle.search_cover.specs.inner.Rounds.{rounds}
use Rattle.search_cover.proofs.close.Given as goal

abbrev pub invariant-loop-k : goal.invariant-loop-k
invariant-loop-k l = (length l.t ≡ length l.initial.t) × (l.k ≤ l.hi) × (l.t ≡ rounds l.initial.t l.hi l.k)

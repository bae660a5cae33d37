-- `search_ring::spread` meets its contract. The invariant: the columns left, sent on into the memory as it is, give what all columns give on
-- the memory at the start.
-- Assumes nothing.
use Prim.Native.Nat.{ℕ, ◌≤◌}
use mathlib.Core.Path.{◌≡◌}
use lib.ListN.{length, get_or}
use Rattle.kat.specs.Lists.{upto}
use Rattle.claims.specs.Standings.{Letter}
use Rattle.search_ring.specs.inner.Columns.{spread_over}
use Rattle.search_ring.proofs.spread.Given as goal

abbrev pub letter : ℕ → ℕ → Letter
letter a r = record { atom = a; relation = r }

abbrev pub invariant-loop-o : goal.invariant-loop-o
invariant-loop-o l =
    (length l.to ≡ 40) × (l.o ≤ 32)
    × (spread_over l.right (letter l.a l.r) (λ i. get_or l.from i 0) (upto l.o 32) l.to ≡ spread_over l.right (letter l.a l.r) (λ i. get_or l.from i 0) (upto 1 32) l.initial.to)

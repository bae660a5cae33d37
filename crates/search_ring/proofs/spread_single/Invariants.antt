-- `search_ring::spread_single` meets its contract. The invariant: the numbers left, sent on into the memory as it is, give what all of them
-- give on the memory at the start.
-- Assumes nothing.
use Prim.Native.Nat.{ℕ, suc, ◌^◌, ◌≤◌}
use mathlib.Core.Path.{◌≡◌}
use lib.ListN.{length}
use Rattle.kat.specs.Lists.{upto}
use Rattle.claims.specs.Standings.{Letter}
use Rattle.search_ring.specs.inner.Columns.{spread_over}
use Rattle.search_ring.proofs.spread_single.Given as goal

abbrev pub letter : ℕ → ℕ → Letter
letter a r = record { atom = a; relation = r }

abbrev pub invariant-loop-p : goal.invariant-loop-p
invariant-loop-p l =
    (length l.to ≡ 40) × (l.p ≤ suc l.m)
    × (spread_over l.right (letter l.a l.r) (λ i. 2 ^ i) (upto l.p (suc l.m)) l.to ≡ spread_over l.right (letter l.a l.r) (λ i. 2 ^ i) (upto 0 (suc l.m)) l.initial.to)

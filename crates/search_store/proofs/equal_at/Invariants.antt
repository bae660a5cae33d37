-- `search_store::equal_at` meets its contract. The invariant: the words so far are equal.
-- Assumes nothing.
use Prim.Native.Nat.{ℕ, ◌+◌, ◌-◌, ◌≤◌, ◌<◌}
use native.Mathlib.Omega.{arith}
use mathlib.Core.Path.{◌≡◌, refl}
use lib.ListN.{get_or}
use Rattle.kat.proofs.Bools.{true_not_false}
use borrow.Author.Count.{below_more}
use borrow.Author.Rules.{rules}
use Rattle.search_store.proofs.equal_at.Given as goal

abbrev pub invariant-loop-j : goal.invariant-loop-j
invariant-loop-j l = (l.j ≤ 34) × ((k : ℕ) → k < l.j → get_or l.words (l.base + k) 0 ≡ get_or l.s k 0)

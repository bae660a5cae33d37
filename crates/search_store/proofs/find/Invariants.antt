-- `search_store::find` meets its contract. The invariant: no standing from here on is equal.
-- Assumes nothing.
use Prim.Native.Nat.{ℕ, ◌-◌, ◌≤◌, ◌<◌}
use native.Mathlib.Omega.{arith}
use mathlib.Core.Path.{◌≡◌}
use mathlib.Core.Bool.{true}
use mathlib.Core.List.{[]}
use Rattle.search_store.specs.Store.{standing_at, standing_in}
use Rattle.search_store.proofs.Standing.{none_below}
use Rattle.search_store.proofs.find.Given as goal

abbrev pub invariant-loop-i : goal.invariant-loop-i
invariant-loop-i l =
    (l.i ≤ l.n) × ((k : ℕ) → l.i ≤ k → k < l.n → standing_at true [] l.words k ≡ standing_in true l.s → ⊥)

abbrev pub decreases-loop-i : goal.decreases-loop-i
decreases-loop-i l = l.i

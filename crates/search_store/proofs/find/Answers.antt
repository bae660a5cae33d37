-- `search_store::find` meets its contract. The invariant: no standing from here on is equal.
-- Assumes nothing.
use Prim.Native.Nat.{ℕ, ◌-◌, ◌≤◌, ◌<◌}
use native.Mathlib.Omega.{arith}
use mathlib.Core.Path.{◌≡◌}
use mathlib.Core.Bool.{true}
use mathlib.Core.List.{[]}
use Rattle.search_store.specs.Store.{standing_at, standing_in}
use Rattle.search_store.proofs.Standing.{none_below, ring_equal, ring_agree}
use Rattle.search_store.proofs.find.Goals as goal

pub loop-i-init : goal.loop-i-init
loop-i-init c = (omega arith, λ k h l. absurd (omega arith))

pub returns-then-equal_at : goal.returns-then-equal_at
returns-then-equal_at c = (omega arith, ring_equal _ _ _ _ (c.equal_at.ensures.alike c.if-equal_at.true))

pub loop-i-preserved : goal.loop-i-preserved
loop-i-preserved c = (
  omega arith,
  none_below _ _ _ c.loop-i.i _ (omega arith) c.loop-i.invariant.1
      (λ e. c.equal_at.ensures.unlike c.if-equal_at.false (ring_agree _ _ _ _ e)),
)

pub returns : goal.returns
returns c = λ k h. c.loop-i.invariant.1 k (omega arith) h

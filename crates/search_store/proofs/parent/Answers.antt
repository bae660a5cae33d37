-- `search_store::parent` meets its contract, by the kind of the claim.
-- Assumes nothing.
use native.Mathlib.Omega.{arith}
use Rattle.search_store.proofs.Standing.{parent_ring}
use Rattle.search_store.proofs.Loaded.{parent_recorded}
use Rattle.search_store.proofs.parent.Goals as goal

pub overflow_mul-result : goal.overflow_mul-result
overflow_mul-result c = omega (arith, c.requires c.if-ring.true)

pub overflow_add-result : goal.overflow_add-result
overflow_add-result c = omega (arith, c.requires c.if-ring.true)

pub offset_bounds-words-i : goal.offset_bounds-words-i
offset_bounds-words-i c = omega (arith, c.requires c.if-ring.true)

pub bounds-words-i : goal.bounds-words-i
bounds-words-i c = omega (arith, c.requires c.if-ring.true)

pub returns-then-ring : goal.returns-then-ring
returns-then-ring c = λ r e. parent_ring _ r _ _ c.if-ring.true

pub returns : goal.returns
returns c = λ r e. parent_recorded _ _ _ _ c.if-ring.false r e

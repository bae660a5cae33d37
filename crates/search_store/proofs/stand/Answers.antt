-- `search_store::stand` meets its contract, by the kind of the claim.
-- Assumes nothing.
use native.Mathlib.Omega.{arith}
use Rattle.search_store.proofs.Standing.{load_ring}
use Rattle.search_store.proofs.Loaded.{standing_recorded}
use borrow.Author.Rules.{rules}
use Rattle.search_store.proofs.stand.Goals as goal

pub overflow_mul-i : goal.overflow_mul-i
overflow_mul-i c = omega (arith, c.requires c.if-ring.true)

pub copy-requires : goal.copy-requires
copy-requires c = (search rules, omega (arith, c.requires c.if-ring.true))

pub returns-then-ring : goal.returns-then-ring
returns-then-ring c = λ r e. load_ring _ r _ _ _ c.if-ring.true _ (omega arith) c.copy.ensures

pub returns : goal.returns
returns c = λ r e. standing_recorded _ _ _ _ c.if-ring.false r e _ c.pair.ensures

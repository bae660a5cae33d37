-- `side_claim::left_end` meets its contract.
-- Assumes nothing.
use Rattle.side_claim.specs.Sides.{left_end}
use borrow.Author.Tests.{eq-eqb, ne_eqb}
use mathlib.Core.Path.{refl}
use Rattle.side_claim.proofs.left_end.Goals as goal

pub returns-then-kind-eq-CLAIM_INCLUDE : goal.returns-then-kind-eq-CLAIM_INCLUDE
unfolding left_end
returns-then-kind-eq-CLAIM_INCLUDE c = rw (eq-eqb c.args.kind 136 c.if-kind-eq-CLAIM_INCLUDE.true) refl

pub returns-else-kind-eq-CLAIM_INCLUDE : goal.returns-else-kind-eq-CLAIM_INCLUDE
unfolding left_end
returns-else-kind-eq-CLAIM_INCLUDE c = rw (ne_eqb c.args.kind 136 c.if-kind-eq-CLAIM_INCLUDE.false) refl

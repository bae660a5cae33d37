-- `side_claim::beside` meets its contract: a ring claim, an inclusion, an empty claim.
-- Assumes nothing.
use Rattle.side_claim.proofs.SidesInMemory.{beside_ring, beside_include, beside_empty}
use Rattle.side_claim.proofs.beside.Goals as goal

pub returns-then-is_ring : goal.returns-then-is_ring
returns-then-is_ring c = beside_ring c.args.codes.now c.args.needs.now c.args.d _ _ _ c.is_ring.ensures c.if-is_ring.true c.run_union.ensures

pub returns-then-d-eq-CLAIM_INCLUDE : goal.returns-then-d-eq-CLAIM_INCLUDE
returns-then-d-eq-CLAIM_INCLUDE c = beside_include c.args.codes.now c.args.needs.now c.args.d _ _ _ c.is_ring.ensures c.if-is_ring.false c.if-d-eq-CLAIM_INCLUDE.true c.run_from.ensures

pub returns : goal.returns
returns c = beside_empty c.args.codes.now c.args.needs.now c.args.d _ _ _ c.is_ring.ensures c.if-is_ring.false c.if-d-eq-CLAIM_INCLUDE.false (c.give.ensures _)

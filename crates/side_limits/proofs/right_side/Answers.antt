-- `side_limits::right_side` meets its contract: the sums that `add` gives, in their order.
-- Assumes nothing.
use Rattle.side_limits.proofs.PlaceSums.{right_ring, right_include, right_empty}
use Rattle.side_limits.proofs.right_side.Goals as goal

pub returns-then-d-eq-CLAIM_IRREFLEXIVE : goal.returns-then-d-eq-CLAIM_IRREFLEXIVE
returns-then-d-eq-CLAIM_IRREFLEXIVE c = right_ring _ _ _ _ _ _ _ c.if-d-eq-CLAIM_IRREFLEXIVE.true c.add.ensures c.add-then-d-eq-CLAIM_IRREFLEXIVE.ensures

pub returns-then-d-eq-CLAIM_INCLUDE : goal.returns-then-d-eq-CLAIM_INCLUDE
returns-then-d-eq-CLAIM_INCLUDE c = right_include _ _ _ _ _ _ _ _ c.if-d-eq-CLAIM_IRREFLEXIVE.false c.add-2.ensures c.add-around.ensures c.if-d-eq-CLAIM_INCLUDE.true c.add-then-d-eq-CLAIM_INCLUDE.ensures

pub returns : goal.returns
returns c = right_empty _ _ _ _ _ _ _ _ c.if-d-eq-CLAIM_IRREFLEXIVE.false c.add-2.ensures c.add-around.ensures c.if-d-eq-CLAIM_INCLUDE.false c.add-3.ensures

-- `small_graphs::put_relation` meets its contract. It goes once over the bits, and what is left to put is the whole.
-- Assumes nothing.
use native.Mathlib.Omega.{arith}
use Rattle.small_graphs.proofs.Fields.{edges_more, edges_none}
use Rattle.case_lines.proofs.Putting.{left_more, left_none}
use borrow.Author.Rules.{rules}
use Rattle.small_graphs.proofs.put_relation.Goals as goal

pub loop-place-init : goal.loop-place-init
loop-place-init c = (omega arith, search rules, λ r n p. p)

pub loop-place-preserved : goal.loop-place-preserved
loop-place-preserved c =
    (omega arith, search rules, left_more _ _ (edges_more _ _ _ c.loop-place-test.true) c.loop-place.invariant.2 c.put_bit-at.ensures)

pub returns : goal.returns
returns c = left_none (edges_none _ _ _ c.loop-place-test.false) c.loop-place.invariant.2

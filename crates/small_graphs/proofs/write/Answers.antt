use Rattle.case_lines.proofs.Putting.{puts_append}
use native.Mathlib.Omega.{arith}
use Rattle.small_graphs.specs.Graphs.{graph_bytes}
use Rattle.small_graphs.proofs.Fields.{relations_more, relations_none}
use Rattle.case_lines.proofs.Putting.{left_more, left_none}
use borrow.Author.Rules.{rules}
use Rattle.small_graphs.proofs.write.Goals as goal

pub loop-i-init : goal.loop-i-init
loop-i-init c = (omega arith, search rules, λ r n p. p)

pub returns-then-edges-i : goal.returns-then-edges-i
unfolding graph_bytes
returns-then-edges-i c =
    let at = c.loop-i in
    let a = c.args in
    puts_append c.put_events-at.ensures (left_none (relations_none a.relations at.i a.edges.now (omega arith)) at.invariant.2)

pub loop-i-preserved : goal.loop-i-preserved
loop-i-preserved c =
    let at = c.loop-i in
    let a = c.args in
    (omega arith, search rules, left_more _ _ (relations_more a.relations at.i a.edges.now (omega arith) (omega arith)) at.invariant.2 c.put_relation-at.ensures)

pub returns : goal.returns
unfolding graph_bytes
returns c =
    let at = c.loop-i in
    let a = c.args in
    puts_append c.put_events-at.ensures (left_none (relations_none a.relations at.i a.edges.now (omega arith)) at.invariant.2)

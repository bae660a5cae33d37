use native.Mathlib.Omega.{arith}
use Rattle.small_graphs.proofs.Fields.{events_more, events_none}
use Rattle.case_lines.proofs.Putting.{left_more, left_none}
use borrow.Author.Rules.{rules}
use Rattle.small_graphs.proofs.put_events.Goals as goal

pub loop-i-init : goal.loop-i-init
loop-i-init c = (omega arith, search rules, λ r n p. p)

pub returns-then-atoms-i : goal.returns-then-atoms-i
returns-then-atoms-i c =
    let a = c.args in
    left_none (events_none a.count c.loop-i.i a.atoms.now (omega arith)) c.loop-i.invariant.2

pub loop-i-preserved : goal.loop-i-preserved
loop-i-preserved c =
    let at = c.loop-i in
    let a = c.args in
    (omega arith, search rules, left_more _ _ (events_more a.count at.i a.atoms.now (omega arith) (omega arith)) at.invariant.2 c.put_event-at.ensures)

pub returns : goal.returns
returns c =
    let a = c.args in
    left_none (events_none a.count c.loop-i.i a.atoms.now (omega arith)) c.loop-i.invariant.2

-- `dot::put_events` meets its contract. The invariant: the events that are left, put into the memory as it is, are all of them put into the memory at
-- the start.
-- Assumes nothing.
use native.Mathlib.Omega.{arith}
use mathlib.Core.Path.{sym, ◌∙◌}
use Rattle.print_line.proofs.Pieces.{left_begin}
use Rattle.dot.proofs.Listing.{event_within}
use Rattle.dot.proofs.Lines.{events_more, events_end}
use Rattle.dot.proofs.put_events.Goals as goal

pub loop-out-init : goal.loop-out-init
loop-out-init c = (omega arith, omega arith, left_begin _ _ _ _ c.least-to.ensures)

pub overflow_add-field : goal.overflow_add-field
overflow_add-field c = omega (arith, (event_within c.args.graph.now c.loop-out.field (sym c.event_at.ensures ∙ c.loop-out-test.true)))

pub bounds-graph-field : goal.bounds-graph-field
bounds-graph-field c = omega (arith, (event_within c.args.graph.now c.loop-out.field (sym c.event_at.ensures ∙ c.loop-out-test.true)))

pub overflow_add-field-in-loop-out : goal.overflow_add-field-in-loop-out
overflow_add-field-in-loop-out c = omega (arith, (event_within c.args.graph.now c.loop-out.field (sym c.event_at.ensures ∙ c.loop-out-test.true)))

pub overflow_add-event : goal.overflow_add-event
overflow_add-event c = omega (arith, (event_within c.args.graph.now c.loop-out.field (sym c.event_at.ensures ∙ c.loop-out-test.true)))

pub loop-out-smaller : goal.loop-out-smaller
loop-out-smaller c = omega (arith, (event_within c.args.graph.now c.loop-out.field (sym c.event_at.ensures ∙ c.loop-out-test.true)))

pub loop-out-preserved : goal.loop-out-preserved
loop-out-preserved c =
    let k = c in
    let l = k.loop-out in
    let a = k.args in
    let h = (event_within c.args.graph.now c.loop-out.field (sym c.event_at.ensures ∙ c.loop-out-test.true)) in
    (omega arith, omega arith, events_more a.text.now a.graph.now l.event l.field (sym k.event_at.ensures ∙ k.loop-out-test.true) l.invariant.2 c.put_event-to.ensures)

pub shape_of-out : goal.shape_of-out
shape_of-out c = c.loop-out.invariant.2.same_length

pub returns : goal.returns
returns c =
    let l = c.loop-out in
    let a = c.args in
    events_end a.text.now a.graph.now l.event l.field (sym c.event_at.ensures ∙ c.loop-out-test.false) l.invariant.2

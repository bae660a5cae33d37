-- `graph_read::add_event` meets its contract: contents of another length, an atom too large, an event after an edge and a 65th event make
-- nothing of the graph, and else the atom stored behind the others lists the graph with the event.
-- Assumes nothing.
use native.Mathlib.Omega.{arith}
use Rattle.graph_read.proofs.Contents.{event_long, event_unknown, event_late, event_many, event_taken}
use Rattle.graph_read.proofs.add_event.Goals as goal

pub returns-then-contents-ne1 : goal.returns-then-contents-ne1
returns-then-contents-ne1 c =
    let a = c.args in
    (λ relations G h. event_long h (record { atoms = a.atoms; relations = relations }) a.contents.now (omega arith))

pub returns-then-atoms-a : goal.returns-then-atoms-a
returns-then-atoms-a c =
    let a = c.args in
    let w = c.wide-a in
    (λ relations G h.
    event_unknown h (record { atoms = a.atoms; relations = relations }) a.contents.now (omega arith)
    w.ensures.0 (omega arith))

pub returns-then-edged : goal.returns-then-edged
returns-then-edged c =
    let a = c.args in
    let w = c.wide-a in
    (λ relations G h.
    event_late h (record { atoms = a.atoms; relations = relations }) a.contents.now (omega arith)
    w.ensures.0 c.if-edged.true)

pub returns-then-n-ge-MOST_EVENTS : goal.returns-then-n-ge-MOST_EVENTS
returns-then-n-ge-MOST_EVENTS c =
    let a = c.args in
    let w = c.wide-a in
    (λ relations G h.
    event_many h (record { atoms = a.atoms; relations = relations }) a.contents.now (omega arith)
    w.ensures.0 (omega arith))

pub returns : goal.returns
returns c =
    let a = c.args in
    let w = c.wide-a in
    (λ relations G h.
    event_taken h (record { atoms = a.atoms; relations = relations }) a.contents.now (omega arith)
    w.ensures.0 (omega arith) c.if-edged.false (omega arith))

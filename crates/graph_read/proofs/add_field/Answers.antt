-- `graph_read::add_field` meets its contract: a cut field and another tag make nothing of the graph, and an event's or an edge's contents make
-- what they make.
-- Assumes nothing.
use Prim.Native.Nat.{◌+◌}
use native.Mathlib.Omega.{arith}
use mathlib.Core.Bool.{true}
use Rattle.graph_read.proofs.Fields.{whole_here, cut_here, cut_not, tag_not, event_on, event_off, edge_on, edge_off}
use Rattle.graph_read.proofs.add_field.Goals as goal

pub returns-in_default : goal.returns-in_default
returns-in_default c =
    let a = c.args in
    (λ G h. cut_not a.bytes.now a.at (record { atoms = a.atoms; relations = a.relations }) G a.listed.now
    (cut_here a.bytes.now a.at c.in_default.is c.next.ensures))

pub slice_bounds-contents-count : goal.slice_bounds-contents-count
slice_bounds-contents-count c =
    let a = c.args in
    let w = whole_here a.bytes.now a.at c.in-Some.is c.next.ensures in
    omega (arith, w.order, w.inside)

pub slice_bounds-contents-start : goal.slice_bounds-contents-start
slice_bounds-contents-start c =
    let a = c.args in
    let w = whole_here a.bytes.now a.at c.in-Some.is c.next.ensures in
    omega (arith, w.order, w.inside)

pub slice_bounds-contents-end : goal.slice_bounds-contents-end
slice_bounds-contents-end c =
    let a = c.args in
    let w = whole_here a.bytes.now a.at c.in-Some.is c.next.ensures in
    omega (arith, w.order, w.inside)

pub returns-then-add_event : goal.returns-then-add_event
returns-then-add_event c =
    let a = c.args in
    let w =
    whole_here a.bytes.now a.at c.in-Some.is
    c.next.ensures in
    (λ G h.
    event_on a.bytes.now a.at (record { atoms = a.atoms; relations = a.relations }) G c.add_event.new.listed w
    (a.n + 1) a.edged (omega arith) c.add_event.result c.if-add_event.true
    (c.add_event.ensures a.relations G h))

pub returns-then-field-eq1 : goal.returns-then-field-eq1
returns-then-field-eq1 c =
    let a = c.args in
    let w =
    whole_here a.bytes.now a.at c.in-Some.is
    c.next.ensures in
    (λ G h.
    event_off a.bytes.now a.at (record { atoms = a.atoms; relations = a.relations }) G c.add_event.new.listed w
    (a.n + 1) a.edged (omega arith) c.add_event.result c.if-add_event.false
    (c.add_event.ensures a.relations G h))

pub returns-then-add_edge : goal.returns-then-add_edge
returns-then-add_edge c =
    let a = c.args in
    let w =
    whole_here a.bytes.now a.at c.in-Some.is
    c.next.ensures in
    (λ G h.
    edge_on a.bytes.now a.at (record { atoms = a.atoms; relations = a.relations }) G c.add_edge.new.listed w
    a.n true (omega arith) c.add_edge.result c.if-add_edge.true
    (c.add_edge.ensures a.atoms G a.edged h))

pub returns-then-field-eq2 : goal.returns-then-field-eq2
returns-then-field-eq2 c =
    let a = c.args in
    let w =
    whole_here a.bytes.now a.at c.in-Some.is
    c.next.ensures in
    (λ G h.
    edge_off a.bytes.now a.at (record { atoms = a.atoms; relations = a.relations }) G c.add_edge.new.listed w
    a.n true (omega arith) c.add_edge.result c.if-add_edge.false
    (c.add_edge.ensures a.atoms G a.edged h))

pub returns : goal.returns
returns c =
    let a = c.args in
    let w =
    whole_here a.bytes.now a.at c.in-Some.is
    c.next.ensures in
    (λ G h. tag_not a.bytes.now a.at (record { atoms = a.atoms; relations = a.relations }) G a.listed.now w (omega arith) (omega arith))

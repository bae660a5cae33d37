-- `graph_read::add_edge` meets its contract: contents of another length, a relation or an event too large and a bit that is set make nothing of
-- the graph, and else the row with the bit lists the graph with the edge.
-- Assumes nothing.
use native.Mathlib.Omega.{arith}
use mathlib.Core.Path.{sym, ◌∙◌}
use Rattle.graph_read.proofs.Contents.{edge_long, edge_unknown, edge_from_none, edge_to_none, edge_repeated, edge_taken}
use Rattle.graph_read.proofs.add_edge.Goals as goal

pub returns-then-contents-ne3 : goal.returns-then-contents-ne3
returns-then-contents-ne3 c =
    let a = c.args in
    (λ atoms G edged h. edge_long h (record { atoms = atoms; relations = a.relations }) a.contents.now (omega arith))

pub returns-then-relations-r : goal.returns-then-relations-r
returns-then-relations-r c =
    let a = c.args in
    let w = c.wide-r in
    let v = c.wide-x in
    let u = c.wide-y in
    (λ atoms G edged h.
    edge_unknown h (record { atoms = atoms; relations = a.relations }) a.contents.now (omega arith)
    w.ensures.0 v.ensures.0 u.ensures.0 (omega arith))

pub returns-then-n-x : goal.returns-then-n-x
returns-then-n-x c =
    let a = c.args in
    let w = c.wide-r in
    let v = c.wide-x in
    let u = c.wide-y in
    (λ atoms G edged h.
    edge_from_none h (record { atoms = atoms; relations = a.relations }) a.contents.now (omega arith)
    w.ensures.0 v.ensures.0 u.ensures.0 (omega arith))

pub returns-then-n-y : goal.returns-then-n-y
returns-then-n-y c =
    let a = c.args in
    let w = c.wide-r in
    let v = c.wide-x in
    let u = c.wide-y in
    (λ atoms G edged h.
    edge_to_none h (record { atoms = atoms; relations = a.relations }) a.contents.now (omega arith)
    w.ensures.0 v.ensures.0 u.ensures.0 (omega arith))

pub returns-then-member : goal.returns-then-member
returns-then-member c =
    let a = c.args in
    let w = c.wide-r in
    let v = c.wide-x in
    let u = c.wide-y in
    (λ atoms G edged h.
    edge_repeated h (record { atoms = atoms; relations = a.relations }) a.contents.now (omega arith)
    w.ensures.0 v.ensures.0 u.ensures.0 (omega arith) (omega arith) (omega arith) (omega arith)
    (sym c.member.ensures ∙ c.if-member.true))

pub returns : goal.returns
returns c =
    let a = c.args in
    let w = c.wide-r in
    let v = c.wide-x in
    let u = c.wide-y in
    (λ atoms G edged h.
    edge_taken h (record { atoms = atoms; relations = a.relations }) a.contents.now (omega arith)
    w.ensures.0 v.ensures.0 u.ensures.0 (omega arith) (omega arith) (omega arith) (omega arith)
    c.with.ensures (sym c.member.ensures ∙ c.if-member.false))

-- `draw::draw_word` meets its contract: all relations are drawn, and the graph is counted before it is written.
-- Assumes nothing.
use native.Mathlib.Omega.{arith}
use mathlib.Core.Path.{◌∙◌, ap}
use lib.ListN.{length}
use Rattle.print_line.proofs.Putting.{puts_bytes}
use Rattle.side_relations.specs.Relations.{closed_set}
use Rattle.draw_rows.specs.Rows.{drawn_rows}
use Rattle.draw_bytes.specs.Bytes.{bytes_of}
use Rattle.draw.proofs.Calls.{draws_large, draws_short, draws_graph}
use Rattle.draw.proofs.Reading.{filled_bytes}
use borrow.Author.Rules.{rules}
use Rattle.draw.proofs.draw_word.Goals as goal

pub returns-then-n-gt64 : goal.returns-then-n-gt64
returns-then-n-gt64 c =
    let a = c.args in
    draws_large (λ k. bytes_of a.word.now k (drawn_rows a.word.now k (closed_set 0 a.codes.now)) a.relations) a.out.now _ _
    c.event_count-n.ensures c.if-n-gt64.true

pub returns-then-out-size : goal.returns-then-out-size
returns-then-out-size c =
    let f = c in
    let x = f.closed_set in
    let e = f.event_count-n in
    let start = c in
    let a = start.args in
    let same = filled_bytes a.word.now e.result (closed_set 0 a.codes.now) a.relations 16 _ start.requires x.result x.ensures f.fill.ensures in
    draws_short (λ k. bytes_of a.word.now k (drawn_rows a.word.now k (closed_set 0 a.codes.now)) a.relations) a.out.now _ _ e.ensures (omega arith)
    _ (c.graph_length-size.ensures a.word.now ∙ ap length same) c.if-out-size.true

pub returns : goal.returns
returns c =
    let g = c in
    let f = c in
    let x = f.closed_set in
    let e = f.event_count-n in
    let start = c in
    let a = start.args in
    let same = filled_bytes a.word.now e.result (closed_set 0 a.codes.now) a.relations 16 _ start.requires x.result x.ensures f.fill.ensures in
    draws_graph (λ k. bytes_of a.word.now k (drawn_rows a.word.now k (closed_set 0 a.codes.now)) a.relations) a.out.now _ _ e.ensures (omega arith)
    _ (g.graph_length-size.ensures a.word.now ∙ ap length same) (omega arith) (puts_bytes same c.put_graph.ensures)

-- `draw_bytes::put_graph` meets its contract: the events, and then the edges.
-- Assumes nothing.
use Rattle.draw_bytes.proofs.Relations.{puts_graph}
use Rattle.draw_bytes.proofs.put_graph.Goals as goal

pub returns : goal.returns
returns c =
    let k = c in
    let a = k.args in
    puts_graph a.word.now a.n _ a.relations k.put_events-to.ensures c.put_edges.ensures

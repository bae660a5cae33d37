-- `dot::dot` meets its contract. One piece after the other; the edges stand behind the events.
-- Assumes nothing.
use Prim.Native.Nat.{◌*◌, ◌-◌}
use native.Mathlib.Omega.{arith}
use lib.ListN.{length, drop, length-drop}
use lib.Seq.{take_all}
use Rattle.dot.proofs.Lines.{text_whole}
use Rattle.dot.proofs.dot.Goals as goal

pub returns : goal.returns
returns c =
    let a = c in
    let g = a.args.graph.now in
    let n = a.events-n.result in
    text_whole _ _ g a.events-n.ensures.0 (take_all (length g - 4 * n) (drop (4 * n) g) (simp length-drop (omega arith)))
    a.put_text-a.ensures c.put_events-b.ensures c.put_edges-c.ensures c.put_text.ensures

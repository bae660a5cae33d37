-- `graph_judge::keep` meets its contract, where there is room for a let and where there is none.
-- Assumes nothing.
use native.Mathlib.Omega.{arith}
use Rattle.graph_judge.proofs.Ends.{kept_room, kept_full}
use Rattle.graph_judge.proofs.keep.Goals as goal

pub returns-then-n-lt-MOST_LETS : goal.returns-then-n-lt-MOST_LETS
returns-then-n-lt-MOST_LETS c =
    let a = c.args in
    kept_room a.mem.now _ a.s _ (omega arith) c.load-t.ensures c.put.ensures

pub returns : goal.returns
returns c = kept_full c.args.mem.now c.args.s _ (omega arith) c.broken_if.ensures

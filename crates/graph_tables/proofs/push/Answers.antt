-- `graph_tables::push` meets its contract, where there is room for a table more and where there is none.
-- Assumes nothing.
use native.Mathlib.Omega.{arith}
use Rattle.graph_tables.proofs.Steps.{pushed_room, pushed_full}
use Rattle.graph_tables.proofs.push.Goals as goal

pub returns-then-w-lt-MOST_WAITING : goal.returns-then-w-lt-MOST_WAITING
returns-then-w-lt-MOST_WAITING c =
    let a = c.args in
    pushed_room a.mem.now _ a.s _ a.t (omega arith) c.put.ensures c.waiting_now.ensures

pub returns : goal.returns
returns c = pushed_full c.args.mem.now c.args.s c.args.t (omega arith)

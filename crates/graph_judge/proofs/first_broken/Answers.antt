-- `graph_judge::first_broken` meets its contract: the line, where it is broken and none was before it.
-- Assumes nothing.
use Rattle.graph_judge.proofs.Ends.{first_now, first_before, not_now}
use Rattle.graph_judge.proofs.first_broken.Goals as goal
use Rattle.graph_judge.proofs.first_broken.Goals.{else-b-via-then-b+else-broken-eq0, else-b-via-else-b}

pub returns-then-broken-eq0 : goal.returns-then-broken-eq0
returns-then-broken-eq0 c = first_now c.args.b c.args.broken c.args.line c.if-b.true c.if-broken-eq0.true

pub returns-else-b : goal.returns-else-b
returns-else-b c =
    elim c.else-b.branch [
      | else-b-via-then-b+else-broken-eq0 w ↦ first_before c.args.b c.args.broken c.args.line w.if-b.true w.if-broken-eq0.false
      | else-b-via-else-b w ↦ not_now c.args.b c.args.broken c.args.line w.if-b.false
    ]

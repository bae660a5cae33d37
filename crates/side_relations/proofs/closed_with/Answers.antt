-- `side_relations::closed_with` meets its contract.
-- Assumes nothing.
use Rattle.side_relations.proofs.ClosedSets.{closed_below, closed_above, closed_line_lem}
use Rattle.side_relations.proofs.closed_with.Goals as goal

pub returns-then-code-lt-CLOSED_LINE : goal.returns-then-code-lt-CLOSED_LINE
returns-then-code-lt-CLOSED_LINE c = let a = c.args in closed_below a.s a.code c.if-code-lt-CLOSED_LINE.true

pub returns-then-code-ge-CLOSED_END : goal.returns-then-code-ge-CLOSED_END
returns-then-code-ge-CLOSED_END c = let a = c.args in closed_above a.s a.code c.if-code-ge-CLOSED_END.true

pub returns : goal.returns
returns c =
    let a = c.args in
    closed_line_lem a.s a.code c.if-code-lt-CLOSED_LINE.false c.if-code-ge-CLOSED_END.false _ c.with.ensures

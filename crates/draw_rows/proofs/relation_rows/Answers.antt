-- `draw_rows::relation_rows` meets its contract: the steps, and the rounds where the relation is closed.
-- Assumes nothing.
use Rattle.draw_rows.proofs.Steps.{rows_closed, rows_open}
use Rattle.draw_rows.proofs.relation_rows.Goals as goal

pub returns-then-closed : goal.returns-then-closed
returns-then-closed c =
    let t = c in
    let a = t.args in
    rows_closed a.word.now a.n a.r a.closed _ _ c.if-closed.true t.step_rows.ensures c.plus.ensures

pub returns : goal.returns
returns c =
    let t = c in
    let a = t.args in
    rows_open a.word.now a.n a.r a.closed _ c.if-closed.false t.step_rows.ensures

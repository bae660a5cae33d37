-- `draw_rows::step_row` meets its contract.
-- Assumes nothing.
use native.Mathlib.Omega.{arith}
use Rattle.draw_rows.proofs.Steps.{step_past, step_other, step_on}
use Rattle.draw_rows.proofs.step_row.Goals as goal

pub returns-then-word-at : goal.returns-then-word-at
returns-then-word-at c = let a = c.args in step_past a.word.now a.n a.r a.x c.if-word-at.true

pub returns-then-wide-r : goal.returns-then-wide-r
returns-then-wide-r c =
    let a = c.args in
    step_other a.word.now a.n a.r a.x (omega arith) _ c.wide.ensures.0 c.if-wide-r.true

pub returns : goal.returns
returns c =
    let a = c.args in
    step_on a.word.now a.n a.r a.x (omega arith) _ c.wide.ensures.0 c.if-wide-r.false
    _ _ c.next_event.ensures c.with.ensures

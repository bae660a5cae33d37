-- `draw_rows::step_rows` meets its contract. The invariant: what is left of the rows, filled in the memory as it is, is all of them filled in
-- the memory at the start.
-- Assumes nothing.
use native.Mathlib.Omega.{arith}
use mathlib.Core.Path.{sym, ◌∙◌}
use lib.ListN.{length-set}
use Rattle.memory.proofs.Words.{fill_begin, fill_more, fill_end}
use Rattle.draw_rows.specs.Rows.{step_row}
use borrow.Author.Rules.{rules}
use Rattle.draw_rows.proofs.step_rows.Goals as goal

pub loop-x-init : goal.loop-x-init
loop-x-init c =
    let a = c.args in
    (search rules, omega arith, fill_begin (step_row a.word.now a.n a.r) a.rows.now)

pub loop-x-preserved : goal.loop-x-preserved
loop-x-preserved c =
    let l = c.loop-x in
    let a = c.args in (
      length-set l.rows l.x c.step_row.result ∙ l.invariant.0,
      omega arith,
      fill_more (step_row a.word.now a.n a.r) l.rows _ l.x c.step_row.result (omega arith) (omega arith) c.step_row.ensures
          ∙ l.invariant.2,
    )

pub returns : goal.returns
returns c =
    let l = c.loop-x in
    let a = c.args in
    sym (fill_end (step_row a.word.now a.n a.r) l.rows _ l.x (omega arith)) ∙ l.invariant.2

-- `draw_rows::fill` meets its contract. The invariant: the relations so far are filled.
-- Assumes nothing.
use native.Mathlib.Omega.{arith}
use mathlib.Core.Path.{◌∙◌}
use lib.ListN.{length-set}
use Rattle.draw_rows.proofs.Tables.{filled_more}
use borrow.Author.Rules.{rules}
use Rattle.draw_rows.proofs.fill.Goals as goal

pub loop-r-init : goal.loop-r-init
loop-r-init c = (search rules, omega arith, λ r h. absurd (omega arith))

pub loop-r-preserved : goal.loop-r-preserved
loop-r-preserved c =
    let l = c.loop-r in
    let a = c.args in (
      length-set l.tables l.r c.relation_rows.result ∙ l.invariant.0,
      omega arith,
      filled_more a.word.now a.n a.closed l.tables l.r c.relation_rows.result c.member.result (omega arith)
          c.member.ensures c.relation_rows.ensures l.invariant.2,
    )

pub returns : goal.returns
returns c = λ r h. c.loop-r.invariant.2 r (omega arith)

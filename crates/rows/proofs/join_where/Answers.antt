-- `rows::join_where` meets its contract. The invariant: what is left of the rows, joined in the memory as it is, is all of them joined in
-- the memory at the start.
-- Assumes nothing.
use native.Mathlib.Omega.{arith}
use mathlib.Core.Path.{sym, ◌∙◌}
use lib.ListN.{length-set}
use Rattle.rows.proofs.Rounds.{where_begin, where_more, where_end}
use borrow.Author.Rules.{rules}
use Rattle.rows.proofs.join_where.Goals as goal

pub loop-x-init : goal.loop-x-init
loop-x-init c =
    let a = c.args in
    (search rules, omega arith, where_begin a.c a.k a.t.now a.n)

pub loop-x-preserved : goal.loop-x-preserved
loop-x-preserved c =
    let l = c.loop-x in
    let a = c.args in (
      length-set l.t l.x c.merged.result ∙ l.invariant.0,
      omega arith,
      where_more a.c a.k l.t a.n l.x c.merged.result (omega arith) (omega arith) c.merged.ensures ∙ l.invariant.2,
    )

pub returns : goal.returns
returns c =
    let l = c.loop-x in
    let a = c.args in
    sym (where_end a.c a.k l.t a.n l.x (omega arith)) ∙ l.invariant.2

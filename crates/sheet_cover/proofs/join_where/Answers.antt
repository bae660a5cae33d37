-- `sheet_cover::join_where` meets its contract. The invariant: what is left of the rows, joined in the memory as it is, is all of them
-- joined in the memory at the start.
-- Assumes nothing.
use native.Mathlib.Omega.{arith}
use mathlib.Core.Path.{sym, ◌∙◌}
use Rattle.sheet_cover.proofs.Rounds.{where_begin, where_more, where_end}
use Rattle.sheet_cover.proofs.join_where.Goals as goal

pub loop-y-init : goal.loop-y-init
loop-y-init c = where_begin c.args.c c.args.k c.args.t.now c.args.hi

pub loop-y-preserved : goal.loop-y-preserved
loop-y-preserved c =
    let l = c.loop-y in
    let a = c.args in
    where_more a.c a.k l.t a.hi l.y c.merged.result (omega arith) (omega arith) c.merged.ensures ∙ l.invariant

pub returns : goal.returns
returns c =
    let l = c.loop-y in
    let a = c.args in
    sym (where_end a.c a.k l.t a.hi l.y (omega arith)) ∙ l.invariant

-- `search_cover::join_where` meets its contract. The invariant: what is left of the columns below hi, joined in the memory as it is, is all of
-- them joined in the memory at the start.
-- Assumes nothing.
use native.Mathlib.Omega.{arith}
use mathlib.Core.Path.{refl, sym, ◌∙◌, ap}
use mathlib.Core.List.{◌++◌}
use lib.ListN.{drop, length-set}
use lib.Seq.{length-take-le}
use Rattle.search_cover.proofs.Rounds.{where_more, where_end, where_whole}
use Rattle.search_cover.proofs.join_where.Goals as goal

pub loop-column-init : goal.loop-column-init
loop-column-init c = (length-take-le c.args.hi c.args.t.now c.requires, refl)

pub loop-column-preserved : goal.loop-column-preserved
loop-column-preserved c =
    let l = c.loop-column in
    let a = c.args in (
      length-set l.column-items l.column-index c.merged.result ∙ l.invariant.0,
      where_more a.c a.k l.column-items a.hi l.column-index c.merged.result (omega arith) (omega arith) c.merged.ensures ∙ l.invariant.1,
    )

pub returns : goal.returns
returns c =
    let l = c.loop-column in
    let a = c.args in
    ap (λ front. front ++ drop a.hi a.t.now) (sym (where_end a.c a.k l.column-items a.hi l.column-index (omega arith)) ∙ l.invariant.1)
    ∙ where_whole a.c a.k a.t.now a.hi c.requires

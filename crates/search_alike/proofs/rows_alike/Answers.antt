-- `search_alike::rows_alike` meets its contract: the chain tests every place from 0 to before the range's end.
-- Assumes nothing.
use Prim.Native.Nat.{◌+◌, suc, min}
use native.Mathlib.Omega.{arith}
use mathlib.Core.Path.{◌≡◌, ◌∙◌, ap}
use borrow.Author.Rules.{rules}
use Rattle.std.proofs.lemmas.Iterator.Search.{all_from_yields_List}
use Rattle.kat.specs.Lists.{upto, every}
use Rattle.standings.specs.Alike.{row_alike, rows_alike}
use Rattle.search_standings.proofs.Chains.{range_yields, all_every}
use Rattle.search_alike.proofs.rows_alike.Goals as goal

pub returns : goal.returns
unfolding rows_alike
returns c =
    let a = c.args in
    let e : c.least-end.result + 1 ≡ suc (min a.n 64) = omega arith in
    all_from_yields_List (row_alike a.table.now a.r a.a a.b) _ _ c.all.result c.all.ensures.ran (range_yields 0 (c.least-end.result + 1))
    (λ x b q k. search rules)
    ∙ all_every (row_alike a.table.now a.r a.a a.b) (upto 0 (c.least-end.result + 1)) ∙ ap (λ k. every (row_alike a.table.now a.r a.a a.b) (upto 0 k)) e

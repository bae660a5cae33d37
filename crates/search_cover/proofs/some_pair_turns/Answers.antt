-- `search_cover::some_pair_turns` meets its contract: the chain asks each column from 1 to m.
-- Assumes nothing.
use Prim.Native.Nat.{◌+◌}
use native.Mathlib.Numerals.{add-one}
use mathlib.Core.Path.{◌∙◌, ap}
use borrow.Author.Rules.{rules}
use Rattle.std.proofs.lemmas.Iterator.Search.{any_from_yields_List}
use Rattle.kat.specs.Lists.{upto, some}
use Rattle.search_standings.proofs.Chains.{range_yields, any_some}
use Rattle.search_cover.specs.inner.Rounds.{pairs_by}
use Rattle.search_cover.proofs.Sought.{sought}
use Rattle.search_cover.proofs.some_pair_turns.Goals as goal

pub returns : goal.returns
unfolding pairs_by
returns c =
    let a = c.args in
    any_from_yields_List (sought a.t.now a.s.now a.m) _ _ c.any.result c.any.ensures.ran (range_yields 1 (a.m + 1)) (λ x b q k. search rules)
    ∙ any_some (sought a.t.now a.s.now a.m) (upto 1 (a.m + 1)) ∙ ap (λ e. some (sought a.t.now a.s.now a.m) (upto 1 e)) (add-one a.m)

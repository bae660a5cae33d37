-- `search_cover::close_columns` meets its contract.
-- Assumes nothing.
use Prim.Native.Nat.{◌+◌}
use mathlib.Core.Path.{◌∙◌, ap}
use Rattle.search_cover.specs.inner.Rounds.{rounds}
use Rattle.search_cover.proofs.close_columns.Goals as goal

pub returns : goal.returns
returns c =
    let a = c.args in
    c.close.ensures
    ∙ ap (λ t. rounds t (a.m + 1) (a.m + 1)) c.store.ensures

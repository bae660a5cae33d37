-- `search_ring::lay_out` meets its contract: three words are stored.
-- Assumes nothing.
use mathlib.Core.Path.{◌∙◌, ap}
use lib.ListN.{set}
use Rattle.search_ring.specs.inner.Columns.{laid_out}
use Rattle.search_ring.proofs.lay_out.Goals as goal

pub returns : goal.returns
unfolding laid_out
returns c =
    let a = c.args in
    c.store-3.ensures
    ∙ ap (λ l. set l 33 a.z) (c.store-2.ensures
    ∙ ap (λ l. set l 32 a.first) c.store.ensures)

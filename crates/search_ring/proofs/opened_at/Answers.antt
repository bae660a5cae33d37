-- `search_ring::opened_at` meets its contract: the union of the columns, its lower half moved up.
-- Assumes nothing.
use Prim.Native.Nat.{◌*◌, ◌%◌, ◌^◌}
use mathlib.Core.Path.{◌∙◌, ap}
use lib.ListN.{take, drop}
use Rattle.bits.specs.Sets.{union_rows}
use Rattle.search_standings.specs.RingWords.{opened}
use Rattle.search_ring.proofs.opened_at.Goals as goal

pub returns : goal.returns
unfolding opened
returns c =
    let a = c.args in
    ap (λ w. w % 2 ^ 32 * 2 ^ 32)
    (c.union_rows-rows.ensures ∙ ap (union_rows (take 31 (drop 1 a.from.now))) c.enders_at-enders.ensures)

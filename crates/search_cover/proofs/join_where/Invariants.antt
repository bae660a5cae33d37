-- `search_cover::join_where` meets its contract. The invariant: what is left of the columns below hi, joined in the memory as it is, is all of
-- them joined in the memory at the start.
-- Assumes nothing.
use mathlib.Core.Path.{◌≡◌}
use lib.ListN.{length, take}
use Rattle.memory.specs.Memory.{changed}
use Rattle.search_cover.proofs.Rounds.{merge}
use Rattle.search_cover.proofs.join_where.Given as goal

abbrev pub invariant-loop-column : goal.invariant-loop-column
invariant-loop-column l =
    (length l.column-items ≡ l.hi)
    × (changed (merge l.c l.k) l.column-items l.column-index l.hi ≡ changed (merge l.c l.k) (take l.hi l.fn.t) 0 l.hi)

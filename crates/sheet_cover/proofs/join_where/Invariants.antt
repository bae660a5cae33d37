-- `sheet_cover::join_where` meets its contract. The invariant: what is left of the rows, joined in the memory as it is, is all of them
-- joined in the memory at the start.
-- Assumes nothing.
use mathlib.Core.Path.{◌≡◌}
use Rattle.memory.specs.Memory.{changed}
use Rattle.sheet_cover.specs.inner.Rounds.{joined_where}
use Rattle.sheet_cover.proofs.Rounds.{merge}
use Rattle.sheet_cover.proofs.join_where.Given as goal

abbrev pub invariant-loop-y : goal.invariant-loop-y
invariant-loop-y l =
    changed (merge l.c l.k) l.t l.y l.hi ≡ joined_where l.initial.t l.c l.k l.hi

-- `sheet_index::equal_at` meets its contract. The invariant: the cells so far are equal.
-- Assumes nothing.
use Rattle.fields.specs.Places.{cell_at}
use lib.ListN.{get_or, take}
use Prim.Native.Nat.{ℕ, ◌+◌, ◌*◌, ◌<◌}
use mathlib.Core.Path.{◌≡◌}
use Rattle.sheet_index.proofs.equal_at.Given as goal

abbrev pub invariant-loop-j : goal.invariant-loop-j
invariant-loop-j l = (i : ℕ) → i < l.j → cell_at l.sheet (l.from + 4 * i) ≡ get_or (take l.n l.cells) i 0

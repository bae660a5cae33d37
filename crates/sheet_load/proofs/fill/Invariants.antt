-- `sheet_load::fill` meets its contract. The invariant: with the rest filled, all of it is.
-- Assumes nothing.
use Prim.Native.Nat.{◌+◌, ◌*◌}
use mathlib.Core.Path.{◌≡◌}
use lib.ListN.{length}
use Rattle.fields.specs.Places.{cell_at}
use Rattle.memory.specs.Memory.{words, changed}
use Rattle.sheet_load.proofs.fill.Given as goal

abbrev pub invariant-loop-j : goal.invariant-loop-j
invariant-loop-j l =
    changed (λ i w. cell_at l.sheet (l.at + 4 * i)) l.to l.j (length l.initial.to) ≡ words (length l.initial.to) (λ i. cell_at l.sheet (l.at + 4 * i))

-- `sheet_ring::first_rows` meets its contract. The invariant: what is left of the rows, filled into the memory as it is, gives all rows.
-- Assumes nothing.
use Prim.Native.Nat.{ℕ}
use mathlib.Core.Path.{◌≡◌}
use mathlib.Core.List.{List}
use Rattle.memory.specs.Memory.{words, changed}
use Rattle.standings.specs.Steps.{step_from}
use Rattle.sheet_standings.specs.RingCells.{raised}
use Rattle.sheet_ring.proofs.first_rows.Given as goal

-- row p of a prefix of one relation
abbrev pub first_row : List ℕ → ℕ → ℕ → ℕ → ℕ
first_row right a r p = raised (step_from right p a r)

abbrev pub invariant-loop-p : goal.invariant-loop-p
invariant-loop-p l =
    changed (λ k w. first_row l.right l.a l.r k) l.to l.p 32 ≡ words 32 (first_row l.right l.a l.r)

-- `sheet_ring::rows_on` meets its contract. The invariant: what is left of the rows, filled into the memory as it is, gives all rows.
-- Assumes nothing.
use Prim.Native.Nat.{ℕ, ◌/◌}
use mathlib.Core.Path.{◌≡◌}
use mathlib.Core.List.{List}
use Rattle.memory.specs.Memory.{words, changed}
use Rattle.standings.specs.Steps.{step_set}
use Rattle.sheet_standings.specs.RingCells.{row_m, raised}
use Rattle.sheet_ring.proofs.rows_on.Given as goal

-- row p one letter on
abbrev pub on_row : List ℕ → List ℕ → ℕ → ℕ → ℕ → ℕ
on_row right from a r p = raised (step_set right (row_m from p / 2) a r)

abbrev pub invariant-loop-p : goal.invariant-loop-p
invariant-loop-p l =
    changed (λ k w. on_row l.right l.from l.a l.r k) l.to l.p 32 ≡ words 32 (on_row l.right l.from l.a l.r)

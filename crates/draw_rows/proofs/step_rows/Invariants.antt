-- `draw_rows::step_rows` meets its contract. The invariant: what is left of the rows, filled in the memory as it is, is all of them filled in
-- the memory at the start.
-- Assumes nothing.
use Prim.Native.Nat.{◌≤◌}
use mathlib.Core.Path.{◌≡◌}
use lib.ListN.{length}
use Rattle.memory.specs.Memory.{changed, words}
use Rattle.draw_rows.specs.Rows.{step_row}
use Rattle.draw_rows.proofs.step_rows.Given as goal

abbrev pub invariant-loop-x : goal.invariant-loop-x
invariant-loop-x l =
    (length l.rows ≡ length l.initial.rows) × (l.x ≤ length l.initial.rows)
    × (changed (λ k w. step_row l.word l.n l.r k) l.rows l.x (length l.initial.rows) ≡ words (length l.initial.rows) (step_row l.word l.n l.r))

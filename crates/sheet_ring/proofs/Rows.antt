-- The rows of M: filled one by one; and an empty row goes nowhere.
-- Assumes nothing.
use Prim.Native.Nat.{ℕ, ◌+◌, ◌*◌, ◌%◌, ◌^◌}
use mathlib.Core.Path.{◌≡◌, sym, ◌∙◌, ap}
use mathlib.Core.List.{List}
use lib.Bits.{bit_and, and_zero_l}
use lib.ListN.{length, take, drop}
use Rattle.memory.specs.Memory.{words, changed}
use Rattle.memory.proofs.Words.{fill_begin}
use Rattle.bits.specs.Sets.{union_over, union_rows}
use Rattle.bits.proofs.Members.{number_none}
use Rattle.standings.specs.Steps.{readers, step_set}
use Rattle.sheet_standings.specs.RingCells.{raised}

-- 32 rows, filled one by one
pub filled : (g : ℕ → ℕ) (to : List ℕ) → length to ≡ 32 → changed (λ k w. g k) to 0 32 ≡ words 32 g
filled g to e =
    ap (λ n. changed (λ k w. g k) to 0 n) (sym e) ∙ fill_begin g to ∙ ap (λ n. words n g) e

-- an empty row of M goes nowhere
pub row_none : (right : List ℕ) (s a r : ℕ) → s ≡ 0 → 0 ≡ raised (step_set right s a r)
unfolding raised step_set union_rows union_over
row_none right s a r e =
    sym (ap (λ k. raised (step_set right k a r)) e
    ∙ ap (λ ks. raised (bit_and (union_over (take 64 (drop (65 * a + 1) right)) ks) (readers right r))) (number_none 0 64)
    ∙ ap (λ w. w % 2 ^ 31 * 2) (and_zero_l (readers right r)))

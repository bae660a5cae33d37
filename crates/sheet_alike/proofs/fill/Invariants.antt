-- `sheet_alike::fill` meets its contract. The invariant: with the rest filled, all of it is.
-- Assumes nothing.
use mathlib.Core.Path.{◌≡◌}
use lib.ListN.{length}
use Rattle.memory.specs.Memory.{words, changed}
use Rattle.sheet_alike.specs.Masks.{mask_at}
use Rattle.sheet_alike.proofs.fill.Given as goal

abbrev pub invariant-loop-r : goal.invariant-loop-r
invariant-loop-r l =
    changed (λ i w. mask_at l.f l.left l.right i) l.out l.r (length l.initial.out) ≡ words (length l.initial.out) (mask_at l.f l.left l.right)

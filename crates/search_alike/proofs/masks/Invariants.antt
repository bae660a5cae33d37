-- `search_alike::masks` meets its contract. The invariant: with the rest filled, all of it is.
-- Assumes nothing.
use mathlib.Core.Path.{◌≡◌}
use lib.ListN.{length}
use Rattle.memory.specs.Memory.{words, changed}
use Rattle.search_alike.specs.Masks.{mask_at}
use Rattle.search_alike.proofs.masks.Given as goal

abbrev pub invariant-loop-r : goal.invariant-loop-r
invariant-loop-r l =
    (length l.out ≡ 16)
    × (changed (λ i w. mask_at l.k l.n l.left l.right i) l.out l.r 16 ≡ words 16 (mask_at l.k l.n l.left l.right))

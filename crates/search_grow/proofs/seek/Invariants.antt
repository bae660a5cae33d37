-- `search_grow::seek` meets its contract: the letters that are passed over are not tried.
-- Assumes nothing.
use Rattle.search_grow.proofs.Letters.{letters_same, letters_next, weight_more, weight_next}
use Rattle.search_grow.specs.Masks.{letters_left, letter_weight}
use Rattle.bits.proofs.Lowest.{lowest}
use borrow.Author.Rules.{rules}
use lib.Count.{ones, trailing_le}
use mathlib.Core.Path.{◌≡◌, refl, ◌∙◌}
use native.Mathlib.Omega.{arith}
use Prim.Native.Nat.{◌≤◌, ◌<◌, ◌^◌}
use Rattle.search_grow.proofs.seek.Given as goal

abbrev pub invariant-loop-atoms : goal.invariant-loop-atoms
invariant-loop-atoms l =
    (l.atoms < 2 ^ 64) × (l.r ≤ l.relations) × (letters_left l.masks l.relations l.rest l.relation ≡ letters_left l.masks l.relations l.atoms l.r)
    × (letter_weight l.atoms l.r ≤ letter_weight l.rest l.relation)

abbrev pub decreases-loop-atoms : goal.decreases-loop-atoms
decreases-loop-atoms l = ones l.atoms

-- `search_alike::mask_of` meets its contract. The invariant: the mask so far, with those of the atoms left that are to be tried, is the
-- whole mask. The measure is the count of ones of the set left.
-- Assumes nothing.
use Prim.Native.Nat.{◌^◌, ◌<◌}
use mathlib.Core.Path.{◌≡◌}
use lib.Count.{ones}
use Rattle.bits.specs.Sets.{members}
use Rattle.standings.specs.Alike.{gathered}
use Rattle.search_alike.specs.Masks.{lowest_words, mask_of}
use Rattle.search_alike.proofs.mask_of.Given as goal

abbrev pub invariant-loop-rest : goal.invariant-loop-rest
invariant-loop-rest l =
    (l.rest < 2 ^ 64) × (gathered (lowest_words l.k l.n l.left l.right l.r) (members l.rest) l.mask ≡ mask_of l.k l.n l.left l.right l.r)

abbrev pub decreases-loop-rest : goal.decreases-loop-rest
decreases-loop-rest l = ones l.rest

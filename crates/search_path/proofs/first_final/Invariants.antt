-- `search_path::first_final` meets its contract. The invariant: the lowest of the atoms left that completes a refuting word is the lowest
-- of all live atoms that does. The measure is the count of ones of the set left.
-- Assumes nothing.
use Prim.Native.Nat.{◌^◌, ◌<◌}
use native.Mathlib.Omega.{arith}
use mathlib.Core.Path.{◌≡◌, refl, sym, ◌∙◌, ap}
use lib.Count.{ones, count_trailing_zeros, trailing_le}
use lib.ListN.{get_or, take}
use Rattle.kat.specs.Lists.{filter}
use Rattle.bits.specs.Sets.{members}
use Rattle.bits.proofs.Lowest.{Lowest, lowest}
use Rattle.search_standings.specs.PathWords.{path_finals}
use Rattle.search_standings.specs.First.{first_or}
use Rattle.search_path.proofs.Firsts.{first_end, first_hit, first_miss, refuting, finals_read}
use borrow.Author.Rules.{rules}
use Rattle.search_path.proofs.first_final.Given as goal

abbrev pub invariant-loop-rest : goal.invariant-loop-rest
invariant-loop-rest l =
    (l.rest < 2 ^ 64)
    × (first_or 64 (filter (refuting l.left l.right l.p l.s) (members l.rest)) ≡ first_or 64 (path_finals l.left l.right l.live (take 2 l.at)))

abbrev pub decreases-loop-rest : goal.decreases-loop-rest
decreases-loop-rest l = ones l.rest

-- `sheet_alike::mask_of` meets its contract. The invariant: the mask so far, with those of the atoms left that are to be tried, is the
-- whole mask. The measure is the count of ones of the set left.
-- Assumes nothing.
use Prim.Native.Nat.{◌-◌}
use native.Mathlib.Omega.{arith}
use mathlib.Core.Path.{refl, sym, ◌∙◌, ap}
use lib.Bits.{bit_and}
use lib.Count.{trailing_le}
use Rattle.bits.specs.Sets.{members}
use Rattle.bits.proofs.Lowest.{lowest as lowest-member}
use Rattle.standings.specs.Alike.{gathered}
use Rattle.sheet_alike.specs.Masks.{lowest_words, mask_of}
use Rattle.standings.proofs.Loops.{gathered_end, gathered_more}
use Rattle.sheet_alike.proofs.mask_of.Goals as goal

pub loop-rest-init : goal.loop-rest-init
unfolding mask_of
loop-rest-init c = (omega arith, refl)

pub overflow_cast-a : goal.overflow_cast-a
overflow_cast-a c = omega (arith, trailing_le 64 c.loop-rest.rest)

pub loop-rest-smaller : goal.loop-rest-smaller
loop-rest-smaller c = omega (arith, ((lowest-member 64 c.loop-rest.rest c.loop-rest.invariant.0 c.loop-rest-test.true)).count)

pub loop-rest-preserved : goal.loop-rest-preserved
loop-rest-preserved c =
    let l = (lowest-member 64 c.loop-rest.rest c.loop-rest.invariant.0 c.loop-rest-test.true) in
    let at = c.loop-rest in
    let a = c.args in (
      omega (arith, l.less),
      ap (gathered (lowest_words a.f a.left.now a.right.now a.r) (members (bit_and at.rest (at.rest - 1))))
          c.marked-mask.ensures
          ∙ gathered_more (lowest_words a.f a.left.now a.right.now a.r) 64 l at.mask c.lowest-kept.result
          c.lowest-kept.ensures
          ∙ at.invariant.1,
    )

pub returns : goal.returns
returns c =
    let at = c.loop-rest in
    let a = c.args in
    sym
    (gathered_end (lowest_words a.f a.left.now a.right.now a.r) 64 at.rest at.mask c.loop-rest-test.false)
    ∙ at.invariant.1

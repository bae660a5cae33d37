-- `sheet_alike::lowest` meets its contract. The invariant: none of the atoms left is alike exactly where none of all is. The measure is
-- the count of ones of the set left.
-- Assumes nothing.
use native.Mathlib.Omega.{arith}
use mathlib.Core.Path.{sym, ◌∙◌, ap}
use mathlib.Core.Bool.{not}
use lib.Bits.{bit_and, and_le_l}
use lib.Count.{trailing_le}
use Rattle.kat.specs.Lists.{some}
use Rattle.bits.specs.Sets.{members}
use Rattle.bits.proofs.Lowest.{lowest as lowest-member}
use Rattle.bits.proofs.Walk.{some_end, some_hit, some_miss}
use Rattle.sheet_alike.specs.Masks.{alike_words, lowest_words}
use Rattle.sheet_alike.proofs.lowest.Goals as goal

pub loop-rest-init : goal.loop-rest-init
unfolding lowest_words
loop-rest-init c =
    let a = c.args in (
      omega (arith, and_le_l a.f.live c.below.result),
      ap (λ s. not (some (alike_words a.f a.left.now a.right.now a.r a.a) (members (bit_and a.f.live s))))
          c.below.ensures,
    )

pub overflow_cast-b : goal.overflow_cast-b
overflow_cast-b c = omega (arith, trailing_le 64 c.loop-rest.rest)

pub returns-then-alike : goal.returns-then-alike
returns-then-alike c =
    let a = c.args in
    sym
    (ap not
    (some_hit (alike_words a.f a.left.now a.right.now a.r a.a) 64 ((lowest-member 64 c.loop-rest.rest c.loop-rest.invariant.0 c.loop-rest-test.true))
    (sym c.alike.ensures ∙ c.if-alike.true)))
    ∙ c.loop-rest.invariant.1

pub loop-rest-smaller : goal.loop-rest-smaller
loop-rest-smaller c = omega (arith, ((lowest-member 64 c.loop-rest.rest c.loop-rest.invariant.0 c.loop-rest-test.true)).count)

pub loop-rest-preserved : goal.loop-rest-preserved
loop-rest-preserved c =
    let l = (lowest-member 64 c.loop-rest.rest c.loop-rest.invariant.0 c.loop-rest-test.true) in
    let a = c.args in (
      omega (arith, l.less),
      ap not
          (some_miss (alike_words a.f a.left.now a.right.now a.r a.a) 64 l
          (sym c.alike.ensures ∙ c.if-alike.false))
          ∙ c.loop-rest.invariant.1,
    )

pub returns : goal.returns
returns c =
    let at = c.loop-rest in
    let a = c.args in
    sym
    (ap not (some_end (alike_words a.f a.left.now a.right.now a.r a.a) 64 at.rest c.loop-rest-test.false))
    ∙ at.invariant.1

-- `sheet_proves::none_alone` meets its contract. The invariant: none of the atoms left refutes exactly where none of all does. The measure is
-- the count of ones of the set left.
-- Assumes nothing.
use native.Mathlib.Omega.{arith}
use mathlib.Core.Path.{sym, ◌∙◌, ap}
use mathlib.Core.Bool.{not}
use lib.Count.{trailing_le}
use Rattle.bits.proofs.Lowest.{lowest}
use Rattle.bits.proofs.Walk.{some_end, some_hit, some_miss}
use Rattle.sheet_proves.proofs.Ways.{alone_refutes, none_refutes}
use Rattle.sheet_proves.proofs.none_alone.Goals as goal

pub loop-rest-init : goal.loop-rest-init
loop-rest-init c = (omega arith, none_refutes c.args.left.now c.args.right.now c.args.live)

pub overflow_cast-a : goal.overflow_cast-a
overflow_cast-a c = omega (arith, trailing_le 64 c.loop-rest.rest)

pub returns-then-alone_refutes : goal.returns-then-alone_refutes
returns-then-alone_refutes c =
    let a = c.args in
    sym
    (ap not
    (some_hit (alone_refutes a.left.now a.right.now) 64 ((lowest 64 c.loop-rest.rest c.loop-rest.invariant.0 c.loop-rest-test.true)) (sym c.alone_refutes.ensures ∙ c.if-alone_refutes.true)))
    ∙ c.loop-rest.invariant.1

pub loop-rest-smaller : goal.loop-rest-smaller
loop-rest-smaller c = omega (arith, ((lowest 64 c.loop-rest.rest c.loop-rest.invariant.0 c.loop-rest-test.true)).count)

pub loop-rest-preserved : goal.loop-rest-preserved
loop-rest-preserved c =
    let l = (lowest 64 c.loop-rest.rest c.loop-rest.invariant.0 c.loop-rest-test.true) in
    let a = c.args in (
      omega (arith, l.less),
      ap not (some_miss (alone_refutes a.left.now a.right.now) 64 l (sym c.alone_refutes.ensures ∙ c.if-alone_refutes.false))
          ∙ c.loop-rest.invariant.1,
    )

pub returns : goal.returns
returns c =
    let a = c.args in
    sym (ap not (some_end (alone_refutes a.left.now a.right.now) 64 c.loop-rest.rest c.loop-rest-test.false))
    ∙ c.loop-rest.invariant.1

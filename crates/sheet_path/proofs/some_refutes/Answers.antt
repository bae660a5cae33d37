-- `sheet_path::some_refutes` meets its contract. The invariant: some atom of those left passes exactly where some atom of the set does. The
-- measure is the count of ones of the set left.
-- Assumes nothing.
use Prim.Native.Nat.{◌^◌, ◌<◌}
use native.Mathlib.Omega.{arith}
use mathlib.Core.Path.{◌≡◌, refl, sym, ◌∙◌}
use lib.Count.{ones, trailing_le}
use Rattle.kat.specs.Lists.{some}
use Rattle.bits.specs.Sets.{members}
use Rattle.bits.proofs.Lowest.{Lowest, lowest}
use Rattle.bits.proofs.Walk.{some_end, some_hit, some_miss}
use Rattle.sheet_path.proofs.Finals.{refuting}
use borrow.Author.Rules.{rules}
use Rattle.sheet_path.proofs.some_refutes.Goals as goal

pub loop-rest-init : goal.loop-rest-init
loop-rest-init c = (search rules, refl)

pub overflow_cast-a : goal.overflow_cast-a
overflow_cast-a c = omega (arith, trailing_le 64 c.loop-rest.rest)

pub returns-then-refutes : goal.returns-then-refutes
returns-then-refutes c =
    let l = c.loop-rest in
    let a = c.args in
    sym (some_hit (refuting a.left.now a.right.now a.p a.s) 64 ((lowest 64 c.loop-rest.rest c.loop-rest.invariant.0 c.loop-rest-test.true)) (sym c.refutes.ensures ∙ c.if-refutes.true))
    ∙ l.invariant.1

pub loop-rest-smaller : goal.loop-rest-smaller
loop-rest-smaller c = omega (arith, ((lowest 64 c.loop-rest.rest c.loop-rest.invariant.0 c.loop-rest-test.true)).count)

pub loop-rest-preserved : goal.loop-rest-preserved
loop-rest-preserved c =
    let l = c.loop-rest in
    let a = c.args in (
      omega (arith, ((lowest 64 c.loop-rest.rest c.loop-rest.invariant.0 c.loop-rest-test.true)).less),
      some_miss (refuting a.left.now a.right.now a.p a.s) 64 ((lowest 64 c.loop-rest.rest c.loop-rest.invariant.0 c.loop-rest-test.true))
          (sym c.refutes.ensures ∙ c.if-refutes.false)
          ∙ l.invariant.1,
    )

pub returns : goal.returns
returns c =
    let l = c.loop-rest in
    let a = c.args in
    sym (some_end (refuting a.left.now a.right.now a.p a.s) 64 l.rest c.loop-rest-test.false) ∙ l.invariant.1

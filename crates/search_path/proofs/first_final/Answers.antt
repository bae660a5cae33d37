-- `search_path::first_final` meets its contract. The invariant: the lowest of the atoms left that completes a refuting word is the lowest
-- of all live atoms that does. The measure is the count of ones of the set left.
-- Assumes nothing.
use Prim.Native.Nat.{◌^◌, ◌<◌}
use native.Mathlib.Omega.{arith}
use mathlib.Core.Path.{◌≡◌, refl, sym, ◌∙◌, ap}
use lib.Count.{ones, count_trailing_zeros, trailing_le}
use lib.ListN.{get_or, take}
use Rattle.kat.specs.Lists.{filter}
use Rattle.bits.specs.Sets.{members}
use Rattle.bits.proofs.Lowest.{Lowest, lowest}
use Rattle.search_standings.specs.PathWords.{path_finals}
use Rattle.search_standings.specs.First.{first_or}
use Rattle.search_path.proofs.Firsts.{first_end, first_hit, first_miss, refuting, finals_read}
use borrow.Author.Rules.{rules}
use Rattle.search_path.proofs.first_final.Goals as goal

pub loop-rest-init : goal.loop-rest-init
loop-rest-init c =
    let a = c.args in
    (search rules, ap (first_or 64) (finals_read a.left.now a.right.now a.at.now _ _ a.live refl refl))

pub overflow_cast-a : goal.overflow_cast-a
overflow_cast-a c = omega (arith, trailing_le 64 c.loop-rest.rest)

pub returns-then-refutes : goal.returns-then-refutes
returns-then-refutes c =
    let a = c.args in
    sym
    (first_hit (refuting a.left.now a.right.now (get_or a.at.now 0 0) (get_or a.at.now 1 0)) 64 64 ((lowest 64 c.loop-rest.rest c.loop-rest.invariant.0 c.loop-rest-test.true))
    ((sym c.refutes.ensures) ∙ c.if-refutes.true))
    ∙ c.loop-rest.invariant.1

pub loop-rest-smaller : goal.loop-rest-smaller
loop-rest-smaller c = omega (arith, ((lowest 64 c.loop-rest.rest c.loop-rest.invariant.0 c.loop-rest-test.true)).count)

pub loop-rest-preserved : goal.loop-rest-preserved
loop-rest-preserved c =
    let a = c.args in
    let l = (lowest 64 c.loop-rest.rest c.loop-rest.invariant.0 c.loop-rest-test.true) in
    let at = c.loop-rest in (
      omega (arith, l.less),
      first_miss (refuting a.left.now a.right.now (get_or a.at.now 0 0) (get_or a.at.now 1 0)) 64 64 l
          ((sym c.refutes.ensures) ∙ c.if-refutes.false)
          ∙ at.invariant.1,
    )

pub returns : goal.returns
returns c =
    let a = c.args in
    let at = c.loop-rest in
    sym
    (first_end (refuting a.left.now a.right.now (get_or a.at.now 0 0) (get_or a.at.now 1 0)) 64 64 at.rest
    c.loop-rest-test.false)
    ∙ at.invariant.1

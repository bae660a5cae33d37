-- `sheet_pairs::push` meets its contract. The invariant: w joined into the rows of the members left, on the memory as it is, is w joined
-- into those of all members on the memory at the start. The measure is the count of ones of the set left.
-- Assumes nothing.
use Prim.Native.Nat.{◌-◌}
use native.Mathlib.Omega.{arith}
use mathlib.Core.Path.{refl, sym, ◌∙◌, ap}
use lib.Bits.{bit_and}
use lib.Count.{trailing_le}
use Rattle.bits.proofs.Lowest.{lowest}
use Rattle.sheet_pairs.specs.inner.Rows.{pushed}
use Rattle.sheet_pairs.proofs.Rows.{pushed_more, pushed_end}
use borrow.Author.Rules.{rules}
use Rattle.sheet_pairs.proofs.push.Goals as goal

pub loop-rest-init : goal.loop-rest-init
loop-rest-init c = (search rules, search rules, refl)

pub overflow_cast-k : goal.overflow_cast-k
overflow_cast-k c = omega (arith, trailing_le 64 c.loop-rest.rest)

pub overflow_add-k : goal.overflow_add-k
overflow_add-k c = omega (arith, trailing_le 64 c.loop-rest.rest)

pub loop-rest-smaller : goal.loop-rest-smaller
loop-rest-smaller c = omega (arith, ((lowest 64 c.loop-rest.rest c.loop-rest.invariant.1 c.loop-rest-test.true)).count)

pub loop-rest-preserved : goal.loop-rest-preserved
loop-rest-preserved c =
    let t = c.join in
    let l = c.loop-rest in
    let a = c.args in
    let m = (lowest 64 c.loop-rest.rest c.loop-rest.invariant.1 c.loop-rest-test.true) in (
      t.auto.to ∙ l.invariant.0,
      omega (arith, m.less),
      ap (λ x. pushed x (bit_and l.rest (l.rest - 1)) a.w) t.ensures ∙ pushed_more l.to a.w m l.invariant.0 ∙ l.invariant.2,
    )

pub returns : goal.returns
returns c =
    let l = c.loop-rest in
    let a = c.args in
    sym (pushed_end l.to a.w l.rest l.invariant.0 c.loop-rest-test.false) ∙ l.invariant.2

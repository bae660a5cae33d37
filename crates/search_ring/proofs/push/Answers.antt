-- `search_ring::push` meets its contract. The invariant: w joined into the columns of the members left, on the memory as it is, is w joined
-- into those of all members on the memory at the start. The measure is the count of ones of the set left.
-- Assumes nothing.
use Prim.Native.Nat.{◌-◌}
use native.Mathlib.Omega.{arith}
use mathlib.Core.Path.{refl, sym, ◌∙◌, ap}
use lib.Bits.{bit_and}
use lib.Count.{trailing_le}
use Rattle.bits.proofs.Lowest.{lowest}
use Rattle.search_ring.specs.inner.Columns.{pushed}
use Rattle.search_ring.proofs.Columns.{pushed_more, pushed_end}
use borrow.Author.Rules.{rules}
use Rattle.search_ring.proofs.push.Goals as goal

pub loop-left-init : goal.loop-left-init
loop-left-init c = (search rules, search rules, refl)

pub overflow_cast-k : goal.overflow_cast-k
overflow_cast-k c = omega (arith, trailing_le 64 c.loop-left.left)

pub loop-left-smaller : goal.loop-left-smaller
loop-left-smaller c = omega (arith, ((lowest 64 c.loop-left.left c.loop-left.invariant.1 c.loop-left-test.true)).count)

pub loop-left-preserved : goal.loop-left-preserved
loop-left-preserved c =
    let t = c.join in
    let l = c.loop-left in
    let a = c.args in
    let m = (lowest 64 c.loop-left.left c.loop-left.invariant.1 c.loop-left-test.true) in (
      t.auto.to ∙ l.invariant.0,
      omega (arith, m.less),
      ap (λ x. pushed x (bit_and l.left (l.left - 1)) a.w) t.ensures ∙ pushed_more l.to a.w m l.invariant.0 ∙ l.invariant.2,
    )

pub returns : goal.returns
returns c =
    let l = c.loop-left in
    let a = c.args in
    sym (pushed_end l.to a.w l.left l.invariant.0 c.loop-left-test.false) ∙ l.invariant.2

-- `side_limits::count_lets` meets its contract. The invariant: for whatever a bracketed test and the relations count, the table and the sum follow the
-- walk over the codes passed, and there were no more lets than codes.
-- Assumes nothing.
use Prim.Native.Nat.{◌<◌}
use native.Mathlib.Omega.{arith}
use mathlib.Core.Path.{refl, subst}
use lib.ListN.{length, length-set}
use lib.Seq.{take_all}
use Rattle.side_limits.specs.Tally.{tally, run}
use Rattle.side_limits.specs.inner.CappedSums.{Table}
use Rattle.side_limits.proofs.Walk.{tally_more}
use Rattle.side_limits.proofs.Tables.{follows_start, follows_inside, follows_let, follows_aside}
use Rattle.side_limits.proofs.count_lets.Goals as goal

pub loop-k-init : goal.loop-k-init
unfolding tally run
loop-k-init c = (omega arith, omega arith, refl, λ t w x. follows_start t w _ x)

pub loop-k-preserved-then-k-lt-LINE : goal.loop-k-preserved-then-k-lt-LINE
loop-k-preserved-then-k-lt-LINE c =
    let at = c.loop-k in
    let h : at.k-index < length c.args.codes.now = omega arith in (
      omega arith,
      omega (arith, at.invariant.1),
      at.invariant.2,
      λ t w x.
          rw (tally_more t w c.args.codes.now at.k-index h)
          (follows_inside t w _ _ _ _ (at.invariant.3 t w x) _ c.if-k-lt-LINE.true _ _ c.word.ensures c.add-sum.ensures),
    )

pub loop-k-preserved-then-k-ne-LET_LINE : goal.loop-k-preserved-then-k-ne-LET_LINE
loop-k-preserved-then-k-ne-LET_LINE c =
    let at = c.loop-k in
    let h : at.k-index < length c.args.codes.now = omega arith in (
      omega arith,
      omega (arith, at.invariant.1),
      at.invariant.2,
      λ t w x.
          rw (tally_more t w c.args.codes.now at.k-index h) (follows_aside t w _ _ _ _ (at.invariant.3 t w x) _ c.if-k-lt-LINE.false c.if-k-ne-LET_LINE.true),
    )

pub overflow_add-n : goal.overflow_add-n
overflow_add-n c = omega (arith, c.loop-k.invariant.1, c.loop-k.invariant.0)

pub overflow_add-n-in-loop-k : goal.overflow_add-n-in-loop-k
overflow_add-n-in-loop-k c = omega (arith, c.loop-k.invariant.1)

pub loop-k-preserved : goal.loop-k-preserved
loop-k-preserved c =
    let at = c.loop-k in
    let h : at.k-index < length c.args.codes.now = omega arith in (
      omega arith,
      omega (arith, at.invariant.1),
      rw c.store.ensures (simp length-set at.invariant.2),
      λ t w x.
          rw (c.store.ensures, tally_more t w c.args.codes.now at.k-index h) (follows_let t w _ _ _ _ (at.invariant.3 t w x) _ c.if-k-ne-LET_LINE.false),
    )

pub shape_of-table : goal.shape_of-table
shape_of-table c = c.loop-k.invariant.2

pub returns : goal.returns
returns c = λ t w x.
    subst (λ ks. Table t w (tally t w ks).lets c.loop-k.table) (take_all _ _ (omega arith)) (c.loop-k.invariant.3 t w x).table

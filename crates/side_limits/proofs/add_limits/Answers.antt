-- `side_limits::add_limits` meets its contract. The invariant: the table has what the `within` lines among the codes passed give the relations. The
-- measure is what is left of the codes.
-- Assumes nothing.
use native.Mathlib.Omega.{arith}
use mathlib.Core.Path.{refl}
use mathlib.Core.Logic.◌⊎◌.{inl, inr}
use lib.ListN.{length-set}
use Rattle.side_limits.proofs.Tables.{limits_none, limits_all, limits_aside, limits_more}
use Rattle.side_limits.proofs.add_limits.Goals as goal

pub loop-k-init : goal.loop-k-init
loop-k-init c = (omega arith, refl, limits_none _ c.args.codes.now _ c.requires)

pub loop-k-preserved-then-k-lt-WITHIN_LINE : goal.loop-k-preserved-then-k-lt-WITHIN_LINE
loop-k-preserved-then-k-lt-WITHIN_LINE c =
    let at = c.loop-k in (
      omega arith,
      at.invariant.1,
      limits_aside _ _ at.k-index (omega arith) at.table (inl c.if-k-lt-WITHIN_LINE.true) at.invariant.2,
    )

pub loop-k-preserved-then-k-ge-CLOSED_LINE : goal.loop-k-preserved-then-k-ge-CLOSED_LINE
loop-k-preserved-then-k-ge-CLOSED_LINE c =
    let at = c.loop-k in (
      omega arith,
      at.invariant.1,
      limits_aside _ _ at.k-index (omega arith) at.table (inr c.if-k-ge-CLOSED_LINE.true) at.invariant.2,
    )

pub loop-k-preserved : goal.loop-k-preserved
loop-k-preserved c =
    let at = c.loop-k in (
      omega arith,
      rw c.store.ensures (simp length-set at.invariant.1),
      rw c.store.ensures
          (limits_more _ _ at.k-index (omega arith) at.table _ _ _ c.if-k-lt-WITHIN_LINE.false c.if-k-ge-CLOSED_LINE.false refl c.add-tests.ensures
          (omega (arith, c.add-w.ensures, c.word.ensures)) at.invariant.2),
    )

pub shape_of-table : goal.shape_of-table
shape_of-table c = c.loop-k.invariant.1

pub returns : goal.returns
returns c = limits_all _ _ _ _ (omega arith) c.loop-k.invariant.2

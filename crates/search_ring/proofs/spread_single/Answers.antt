-- `search_ring::spread_single` meets its contract. The invariant: the numbers left, sent on into the memory as it is, give what all of them
-- give on the memory at the start.
-- Assumes nothing.
use Prim.Native.Nat.{suc, ◌+◌, ◌^◌}
use native.Mathlib.Omega.{arith}
use mathlib.Core.Path.{refl, sym, ◌∙◌, ap}
use Rattle.kat.specs.Lists.{upto}
use Rattle.bits.proofs.Rows.{shifted_one}
use Rattle.standings.proofs.Upto.{upto_none}
use Rattle.search_ring.specs.inner.Columns.{spread_over}
use Rattle.search_ring.proofs.Columns.{spread_more, spread_end}
use Rattle.search_ring.proofs.spread_single.Invariants.{letter}
use Rattle.search_ring.proofs.spread_single.Goals as goal

pub loop-p-init : goal.loop-p-init
loop-p-init c = (omega arith, omega arith, refl)

pub loop-p-preserved : goal.loop-p-preserved
loop-p-preserved c =
    let t = c.send in
    let l = c.loop-p in
    let a = c.args in (
      t.auto.to ∙ l.invariant.0,
      omega arith,
      ap (spread_over a.right.now (letter a.a a.r) (λ i. 2 ^ i) (upto (l.p + 1) (suc a.m))) t.ensures
          ∙ spread_more a.right.now (letter a.a a.r) (λ i. 2 ^ i) l.p (suc a.m) l.to _ (omega arith)
          (shifted_one 64 l.p (omega arith))
          ∙ l.invariant.2,
    )

pub returns : goal.returns
returns c =
    let l = c.loop-p in
    let a = c.args in
    sym (spread_end a.right.now (letter a.a a.r) (λ i. 2 ^ i) (upto l.p (suc a.m)) l.to l.invariant.0
    (upto_none l.p (suc a.m) (omega arith))) ∙ l.invariant.2

-- `search_ring::spread` meets its contract. The invariant: the columns left, sent on into the memory as it is, give what all columns give on
-- the memory at the start.
-- Assumes nothing.
use Prim.Native.Nat.{◌+◌}
use native.Mathlib.Omega.{arith}
use mathlib.Core.Path.{refl, sym, ◌∙◌, ap}
use lib.ListN.{get_or}
use Rattle.kat.specs.Lists.{upto}
use Rattle.standings.proofs.Upto.{upto_none}
use Rattle.search_ring.specs.inner.Columns.{spread_over}
use Rattle.search_ring.proofs.Columns.{spread_more, spread_end}
use Rattle.search_ring.proofs.spread.Invariants.{letter}
use Rattle.search_ring.proofs.spread.Goals as goal

pub loop-o-init : goal.loop-o-init
loop-o-init c = (omega arith, omega arith, refl)

pub loop-o-preserved : goal.loop-o-preserved
loop-o-preserved c =
    let t = c.send in
    let l = c.loop-o in
    let a = c.args in (
      t.auto.to ∙ l.invariant.0,
      omega arith,
      ap (spread_over a.right.now (letter a.a a.r) (λ i. get_or a.from.now i 0) (upto (l.o + 1) 32)) t.ensures
          ∙ spread_more a.right.now (letter a.a a.r) (λ i. get_or a.from.now i 0) l.o 32 l.to
          c.word.result (omega arith) c.word.ensures
          ∙ l.invariant.2,
    )

pub returns : goal.returns
returns c =
    let l = c.loop-o in
    let a = c.args in
    sym (spread_end a.right.now (letter a.a a.r) (λ i. get_or a.from.now i 0) (upto l.o 32) l.to l.invariant.0
    (upto_none l.o 32 (omega arith))) ∙ l.invariant.2

-- `sheet_pairs::spread` meets its contract. The invariant: the rows left, sent on into the memory as it is, give what all rows give on
-- the memory at the start.
-- Assumes nothing.
use Prim.Native.Nat.{◌+◌}
use native.Mathlib.Omega.{arith}
use mathlib.Core.Path.{refl, sym, ◌∙◌, ap}
use Rattle.kat.specs.Lists.{upto}
use Rattle.standings.proofs.Upto.{upto_none}
use Rattle.sheet_standings.specs.RingCells.{row_n}
use Rattle.sheet_pairs.specs.inner.Rows.{spread_over}
use Rattle.sheet_pairs.proofs.Rows.{spread_more, spread_end}
use Rattle.sheet_pairs.proofs.spread.Invariants.{letter}
use Rattle.sheet_pairs.proofs.spread.Goals as goal

pub loop-o-init : goal.loop-o-init
loop-o-init c = (omega arith, refl)

pub loop-o-preserved : goal.loop-o-preserved
unfolding row_n
loop-o-preserved c =
    let t = c.send in
    let l = c.loop-o in
    let a = c.args in (
      t.auto.to ∙ l.invariant.0,
      ap (spread_over a.right.now (letter a.a a.r) (row_n a.from.now) (upto (l.o + 1) 32)) t.ensures
          ∙ spread_more a.right.now (letter a.a a.r) (row_n a.from.now) l.o 32 l.to
          c.word.result (omega arith) c.word.ensures
          ∙ l.invariant.1,
    )

pub returns : goal.returns
returns c =
    let l = c.loop-o in
    let a = c.args in
    sym (spread_end a.right.now (letter a.a a.r) (row_n a.from.now) (upto l.o 32) l.to l.invariant.0
    (upto_none l.o 32 (omega arith))) ∙ l.invariant.1

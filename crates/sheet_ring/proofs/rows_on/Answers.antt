-- `sheet_ring::rows_on` meets its contract. The invariant: what is left of the rows, filled into the memory as it is, gives all rows.
-- Assumes nothing.
use Prim.Native.Nat.{◌/◌}
use native.Mathlib.Omega.{arith}
use mathlib.Core.Path.{◌≡◌, sym, ◌∙◌, ap}
use lib.ListN.{length}
use Rattle.memory.proofs.Words.{fill_more, fill_end}
use Rattle.standings.specs.Steps.{step_set}
use Rattle.sheet_standings.specs.RingCells.{row_m, raised}
use Rattle.sheet_ring.proofs.Rows.{filled}
use Rattle.sheet_ring.proofs.rows_on.Invariants.{on_row}
use Rattle.sheet_ring.proofs.rows_on.Goals as goal

pub loop-p-init : goal.loop-p-init
loop-p-init c =
    let a = c.args in
    let e : length a.to.now ≡ 32 = omega arith in
    filled (on_row a.right.now a.from.now a.a a.r) a.to.now e

pub loop-p-preserved : goal.loop-p-preserved
unfolding row_m
loop-p-preserved c =
    let l = c.loop-p in
    let a = c.args in
    fill_more (on_row a.right.now a.from.now a.a a.r) l.to 32 l.p c.row_on.result (omega arith) (omega arith)
    (c.row_on.ensures ∙ ap (λ w. raised (step_set a.right.now (w / 2) a.a a.r)) c.word.ensures)
    ∙ l.invariant

pub returns : goal.returns
returns c =
    let l = c.loop-p in
    let a = c.args in
    sym (fill_end (on_row a.right.now a.from.now a.a a.r) l.to 32 l.p (omega arith)) ∙ l.invariant

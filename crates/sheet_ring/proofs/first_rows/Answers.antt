-- `sheet_ring::first_rows` meets its contract. The invariant: what is left of the rows, filled into the memory as it is, gives all rows.
-- Assumes nothing.
use Prim.Native.Nat.{◌*◌, ◌%◌, ◌^◌}
use native.Mathlib.Omega.{arith}
use mathlib.Core.Path.{◌≡◌, sym, ◌∙◌, ap}
use lib.ListN.{length}
use Rattle.memory.proofs.Words.{fill_more, fill_end}
use Rattle.sheet_standings.specs.RingCells.{raised}
use Rattle.sheet_ring.proofs.Rows.{filled}
use Rattle.sheet_ring.proofs.first_rows.Invariants.{first_row}
use Rattle.sheet_ring.proofs.first_rows.Goals as goal

pub loop-p-init : goal.loop-p-init
loop-p-init c =
    let a = c.args in
    let e : length a.to.now ≡ 32 = omega arith in
    filled (first_row a.right.now a.a a.r) a.to.now e

pub loop-p-preserved : goal.loop-p-preserved
unfolding raised
loop-p-preserved c =
    let l = c.loop-p in
    let a = c.args in
    fill_more (first_row a.right.now a.a a.r) l.to 32 l.p (c.step_from.result % 2 ^ 31 * 2) (omega arith) (omega arith)
    (ap (λ w. w % 2 ^ 31 * 2) c.step_from.ensures)
    ∙ l.invariant

pub returns : goal.returns
returns c =
    let l = c.loop-p in
    let a = c.args in
    sym (fill_end (first_row a.right.now a.a a.r) l.to 32 l.p (omega arith)) ∙ l.invariant

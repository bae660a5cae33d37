-- `sheet_alike::rows_alike` meets its contract. The invariant: the places left are alike exactly where all are.
-- Assumes nothing.
use Prim.Native.Nat.{◌+◌, suc, min}
use native.Mathlib.Omega.{arith}
use mathlib.Core.Path.{◌≡◌, sym, ◌∙◌, ap}
use Rattle.kat.specs.Lists.{upto, every}
use Rattle.standings.specs.Alike.{row_alike, rows_alike}
use Rattle.standings.proofs.Loops.{every_end, every_fails, every_passes}
use mathlib.Core.Bool.{not}
use Rattle.sheet_alike.proofs.rows_alike.Goals as goal

pub loop-p-init : goal.loop-p-init
unfolding rows_alike
loop-p-init c =
    let a = c.args in
    let e : c.min-end.result + 1 ≡ suc (min a.n 64) = omega arith in
    ap (λ m. every (row_alike a.table.now a.r a.a a.b) (upto 0 m)) e

pub returns-then-not-row_alike : goal.returns-then-not-row_alike
returns-then-not-row_alike c =
    let a = c.args in
    let l = c.loop-p in
    sym
    (every_fails (row_alike a.table.now a.r a.a a.b) l.p _ (omega arith) c.row_alike.result
    c.row_alike.ensures (ap not c.if-not-row_alike.true))
    ∙ l.invariant

pub loop-p-preserved : goal.loop-p-preserved
loop-p-preserved c =
    let a = c.args in
    let l = c.loop-p in
    every_passes (row_alike a.table.now a.r a.a a.b) l.p _ (omega arith) c.row_alike.result
    c.row_alike.ensures (ap not c.if-not-row_alike.false)
    ∙ l.invariant

pub returns : goal.returns
returns c =
    let a = c.args in
    let l = c.loop-p in
    sym (every_end (row_alike a.table.now a.r a.a a.b) l.p _ (omega arith)) ∙ l.invariant

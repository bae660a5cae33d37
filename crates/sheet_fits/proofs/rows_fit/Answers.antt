-- `sheet_fits::rows_fit` meets its contract. The invariant: what is left of the rows passes exactly where all do.
-- Assumes nothing.
use native.Mathlib.Omega.{arith}
use mathlib.Core.Path.{refl, sym, ◌∙◌, ap}
use lib.ListN.{take, drop}
use Rattle.sheet_fits.specs.inner.Rows.{row_of}
use Rattle.sheet_fits.proofs.Rows.{rows_more, rows_wrong, rows_end, rows_size, rows_at}
use Rattle.sheet_fits.proofs.rows_fit.Goals as goal

pub loop-p-init : goal.loop-p-init
loop-p-init c = refl

pub returns-then-not-row_fits : goal.returns-then-not-row_fits
returns-then-not-row_fits c =
    let a = c.args in
    let l = c.loop-p in
    sym (sym l.invariant
    ∙ rows_wrong (row_of a.upper a.r) (take 32 (drop a.from (take 67 a.s.now))) l.p
    (omega (arith, rows_size a.s.now a.from (omega arith) c.requires.0.size))
    (ap (row_of a.upper a.r l.p) (rows_at a.s.now a.from (omega arith) l.p (omega arith))
    ∙ sym c.row_fits.ensures ∙ c.if-not-row_fits.true))

pub loop-p-preserved : goal.loop-p-preserved
loop-p-preserved c =
    let a = c.args in
    let l = c.loop-p in
    rows_more (row_of a.upper a.r) (take 32 (drop a.from (take 67 a.s.now))) l.p
    (omega (arith, rows_size a.s.now a.from (omega arith) c.requires.0.size))
    (ap (row_of a.upper a.r l.p) (rows_at a.s.now a.from (omega arith) l.p (omega arith))
    ∙ sym c.row_fits.ensures ∙ c.if-not-row_fits.false)
    ∙ l.invariant

pub returns : goal.returns
returns c =
    let a = c.args in
    let l = c.loop-p in
    sym (sym l.invariant
    ∙ rows_end (row_of a.upper a.r) (take 32 (drop a.from (take 67 a.s.now))) l.p
    (omega (arith, rows_size a.s.now a.from (omega arith) c.requires.0.size)))

-- `sheet_fits::rows_fit` meets its contract. The invariant: what is left of the rows passes exactly where all do.
-- Assumes nothing.
use mathlib.Core.Path.{◌≡◌}
use lib.ListN.{take, drop}
use Rattle.claims.specs.SheetReading.{rows_pass}
use Rattle.sheet_fits.specs.inner.Rows.{row_of}
use Rattle.sheet_fits.proofs.rows_fit.Given as goal

abbrev pub invariant-loop-p : goal.invariant-loop-p
invariant-loop-p l =
    rows_pass (row_of l.upper l.r) l.p (drop l.p (take 32 (drop l.from (take 67 l.s))))
    ≡ rows_pass (row_of l.upper l.r) 0 (take 32 (drop l.from (take 67 l.s)))

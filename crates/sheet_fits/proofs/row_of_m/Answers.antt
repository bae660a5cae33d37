-- `sheet_fits::row_of_m` meets its contract, test by test.
-- Assumes nothing.
use native.Mathlib.Omega.{arith}
use mathlib.Core.Path.{sym, ◌∙◌}
use Rattle.sheet_fits.proofs.Rows.{outside_m, odd_m, inside_m}
use Rattle.sheet_fits.proofs.row_of_m.Goals as goal

pub returns-then-r-p : goal.returns-then-r-p
returns-then-r-p c = sym (outside_m c.args.r c.args.p c.args.m (omega arith))

pub returns-then-m-ne0 : goal.returns-then-m-ne0
returns-then-m-ne0 c =
    let args' = c.args in
    sym (odd_m args'.r args'.p args'.m (omega arith) (omega arith))

pub returns : goal.returns
returns c =
    let args' = c.args in
    c.row_below.ensures ∙ sym (inside_m args'.r args'.p args'.m (omega arith) (omega arith))

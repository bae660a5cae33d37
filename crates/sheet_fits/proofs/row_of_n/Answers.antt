-- `sheet_fits::row_of_n` meets its contract, test by test.
-- Assumes nothing.
use native.Mathlib.Omega.{arith}
use mathlib.Core.Path.{sym, ◌∙◌}
use Rattle.sheet_fits.proofs.Rows.{first_n_lem, outside_n, inside_n}
use Rattle.sheet_fits.proofs.row_of_n.Goals as goal

pub returns-then-q-eq0 : goal.returns-then-q-eq0
returns-then-q-eq0 c = sym (first_n_lem c.args.r c.args.q c.args.m (omega arith))

pub returns-then-r-q : goal.returns-then-r-q
returns-then-r-q c =
    let args' = c.args in
    sym (outside_n args'.r args'.q args'.m (omega arith) (omega arith))

pub returns : goal.returns
returns c =
    let args' = c.args in
    c.row_below.ensures ∙ sym (inside_n args'.r args'.q args'.m (omega arith) (omega arith))

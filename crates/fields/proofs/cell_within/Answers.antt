-- `fields::cell_within` meets its contract: a byte is below 256, so nothing wraps.
-- Assumes nothing.
use Rattle.fields.proofs.Cells.{cell_four}
use native.Mathlib.Omega.{arith}
use borrow.Author.Rules.{rules}
use Rattle.fields.proofs.cell_within.Goals as goal

pub returns : goal.returns
returns c =
    let a = c.args in
    omega (arith, cell_four a.bytes.now a.at (omega arith))

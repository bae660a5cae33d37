-- `fields::cell` meets its contract: where there are fewer bytes it is 0.
-- Assumes nothing.
use Rattle.fields.proofs.Cells.{cell_past}
use mathlib.Core.Path.{sym}
use native.Mathlib.Omega.{arith}
use borrow.Author.Rules.{rules}
use Rattle.fields.proofs.cell.Goals as goal

pub returns-then-bytes-lt4 : goal.returns-then-bytes-lt4
returns-then-bytes-lt4 c = let a = c.args in sym (cell_past a.bytes.now a.at (omega arith))

pub returns-then-bytes-at : goal.returns-then-bytes-at
returns-then-bytes-at c = let a = c.args in sym (cell_past a.bytes.now a.at (omega arith))

-- `sheet_path::completes` meets its contract: some live atom is asked.
-- Assumes nothing.
use mathlib.Core.Path.{◌∙◌}
use Rattle.sheet_path.proofs.Finals.{finals_some}
use borrow.Author.Rules.{rules}
use Rattle.sheet_path.proofs.completes.Goals as goal

pub returns : goal.returns
returns c =
    let a = c.args in
    c.some_refutes.ensures
    ∙ finals_some a.left.now a.right.now a.live _ _ _ c.left_of.ensures c.right_of.ensures

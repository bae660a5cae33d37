-- `sheet_path::right_of` meets its contract: S is cells 2 and 3.
-- Assumes nothing.
use native.Mathlib.Omega.{arith}
use mathlib.Core.Path.{◌∙◌}
use Rattle.sheet_path.proofs.Four.{cell_small, wide_read}
use borrow.Author.Rules.{rules}
use Rattle.sheet_path.proofs.right_of.Goals as goal

pub whole-requires : goal.whole-requires
whole-requires c =
    let b = c in
    (cell_small b.args.at.now b.requires 2 (omega arith), cell_small b.args.at.now b.requires 3 (omega arith))

pub returns : goal.returns
returns c = c.whole.ensures ∙ wide_read c.args.at.now 2 (omega arith)

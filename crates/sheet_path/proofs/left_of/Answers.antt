-- `sheet_path::left_of` meets its contract: P is cells 0 and 1.
-- Assumes nothing.
use native.Mathlib.Omega.{arith}
use mathlib.Core.Path.{◌∙◌}
use Rattle.sheet_path.proofs.Four.{cell_small, wide_read}
use borrow.Author.Rules.{rules}
use Rattle.sheet_path.proofs.left_of.Goals as goal

pub whole-requires : goal.whole-requires
whole-requires c =
    let b = c in
    (cell_small b.args.at.now b.requires 0 (omega arith), cell_small b.args.at.now b.requires 1 (omega arith))

pub returns : goal.returns
returns c = c.whole.ensures ∙ wide_read c.args.at.now 0 (omega arith)

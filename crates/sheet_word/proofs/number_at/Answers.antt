-- `sheet_word::number_at` meets its contract: past the end the number is 0.
-- Assumes nothing.
use native.Mathlib.Omega.{arith}
use mathlib.Core.Path.{sym}
use lib.ListN.{get_or-eq_default}
use borrow.Author.Rules.{rules}
use Rattle.sheet_word.proofs.number_at.Goals as goal

pub returns : goal.returns
returns c = (sym (get_or-eq_default c.args.word.now 0 (omega arith)), omega arith)

-- `sheet_word::stepped` meets its contract: the standing of `sheet_kinds`.
-- Assumes nothing.
use borrow.Author.Rules.{rules}
use Rattle.sheet_word.proofs.stepped.Goals as goal

pub onward-requires : goal.onward-requires
onward-requires c = c.requires

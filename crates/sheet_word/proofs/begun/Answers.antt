-- `sheet_word::begun` meets its contract: the standing of `sheet_kinds`.
-- Assumes nothing.
use borrow.Author.Rules.{rules}
use Rattle.sheet_word.proofs.begun.Goals as goal

pub begin-requires : goal.begin-requires
begin-requires c = c.requires

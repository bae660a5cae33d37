-- `sheet_steps::enders_at` meets its contract: the ends stand from 4160 on.
-- Assumes nothing.
use Rattle.standings.specs.Steps.{enders}
use borrow.Author.Rules.{rules}
use Rattle.sheet_steps.proofs.enders_at.Goals as goal

pub returns : goal.returns
unfolding enders
returns c = c.word_behind.ensures

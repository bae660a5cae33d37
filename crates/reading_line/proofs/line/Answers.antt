-- `reading_line::line` meets its contract. The answer says what was read.
-- Assumes nothing.
use Rattle.reading_line.proofs.Shown.{read_line_lem}
use borrow.Author.Rules.{rules}
use Rattle.reading_line.proofs.line.Goals as goal

pub returns : goal.returns
returns c = record { puts = (read_line_lem _ _ c.read-a.ensures.0 c.answer_line.ensures.puts c.answer_line.ensures.short).0; short = (read_line_lem _ _ c.read-a.ensures.0 c.answer_line.ensures.puts c.answer_line.ensures.short).1 }

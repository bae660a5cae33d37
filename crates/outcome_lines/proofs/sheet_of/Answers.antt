-- `outcome_lines::sheet_of` meets its contract. A part that would go past the buffer is all of it.
-- Assumes nothing.
use Rattle.outcome_lines.proofs.Sheets.{part_length, part_within}
use borrow.Author.Rules.{rules}
use Rattle.outcome_lines.proofs.sheet_of.Goals as goal

pub slice_bounds-result-end : goal.slice_bounds-result-end
slice_bounds-result-end c = part_length _ _ c.args.buffer.now c.least-n.ensures

pub returns : goal.returns
returns c = part_within _ _ _ _ c.least-n.ensures c.sheet_bytes.ensures

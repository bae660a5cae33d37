-- `sheet_fields::part_at` meets its contract. The invariant: the reader is at the place in the sheet at which the next field begins, and what
-- was read so far stands between the part's start and there. The measure is how many fields may still be read.
-- Assumes nothing.
use Rattle.std.proofs.Common.{◌≡◌}
use Rattle.sheet_fields.specs.inner.Between.{Between, fields_left}
use Rattle.sheet_fields.proofs.part_at.Given as goal

abbrev pub invariant-loop-next : goal.invariant-loop-next
invariant-loop-next l = (l.r.sheet.now ≡ l.sheet) × Between l.f l.sheet l.at l.heads l.chain l.awaited l.r.at

abbrev pub decreases-loop-next : goal.decreases-loop-next
decreases-loop-next l = fields_left l.awaited

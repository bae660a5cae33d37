-- `reading_line::put_kind` meets its contract. By the kind.
-- Assumes nothing.
use Rattle.reading_line.proofs.Shown.{kind_ring, kind_path}
use borrow.Author.Rules.{rules}
use Rattle.reading_line.proofs.put_kind.Goals as goal

pub returns-then-ring : goal.returns-then-ring
returns-then-ring c = kind_ring _ c.if-ring.true c.put_text.ensures

pub returns : goal.returns
returns c = kind_path _ c.if-ring.false c.put_text-2.ensures

-- `side_items::line_after` meets its contract.
-- Assumes nothing.
use borrow.Author.Tests.{le-leb, lt-leb}
use Rattle.side_items.proofs.line_after.Goals as goal

pub returns-then-k-ge-LINE : goal.returns-then-k-ge-LINE
returns-then-k-ge-LINE c = simp (le-leb _ _ c.if-k-ge-LINE.true)

pub returns-else-k-ge-LINE : goal.returns-else-k-ge-LINE
returns-else-k-ge-LINE c = simp (lt-leb _ _ c.if-k-ge-LINE.false)

-- `side_items::from_after` meets its contract.
-- Assumes nothing.
use mathlib.Core.Path.{sym, ◌∙◌}
use Rattle.side_items.proofs.from_after.Goals as goal

pub returns-then-of_test : goal.returns-then-of_test
returns-then-of_test c = simp (sym c.of_test.ensures ∙ c.if-of_test.true)

pub returns-else-of_test : goal.returns-else-of_test
returns-else-of_test c = simp (sym c.of_test.ensures ∙ c.if-of_test.false)

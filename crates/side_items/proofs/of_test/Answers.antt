-- `side_items::of_test` meets its contract.
-- Assumes nothing.
use borrow.Author.Tests.{lt-ltb, le-ltb, lt-leb, le-leb}
use Rattle.side_items.specs.Items.{of_test}
use Rattle.side_items.proofs.of_test.Goals as goal

pub returns-then-k-lt-TESTED : goal.returns-then-k-lt-TESTED
unfolding of_test
returns-then-k-lt-TESTED c = simp (lt-ltb _ _ c.if-k-lt-TESTED.true)

pub returns-then-k-lt-A_TEST : goal.returns-then-k-lt-A_TEST
unfolding of_test
returns-then-k-lt-A_TEST c = simp (le-ltb _ _ c.if-k-lt-TESTED.false, lt-leb _ _ c.if-k-lt-A_TEST.true)

pub returns : goal.returns
unfolding of_test
returns c = simp (le-ltb _ _ c.if-k-lt-TESTED.false, le-leb _ _ c.if-k-lt-A_TEST.false)

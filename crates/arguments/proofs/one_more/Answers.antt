-- `arguments::one_more` meets its contract. A number that is at most 4,096 grows by a digit.
-- Assumes nothing.
use borrow.Author.Tests.{lt-ltb, le-ltb}
use Rattle.arguments.specs.ArgumentWords.{more}
use Rattle.arguments.proofs.one_more.Goals as goal

pub returns-then-value-gt-MOST_STANDINGS : goal.returns-then-value-gt-MOST_STANDINGS
unfolding more
returns-then-value-gt-MOST_STANDINGS c = rw (lt-ltb 4096 c.args.value c.if-value-gt-MOST_STANDINGS.true)

pub returns : goal.returns
unfolding more
returns c = rw (le-ltb 4096 c.args.value c.if-value-gt-MOST_STANDINGS.false)

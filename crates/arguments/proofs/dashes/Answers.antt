-- `arguments::dashes` meets its contract. By the tests in their order.
-- Assumes nothing.
use lib.ListN.{length, get_or}
use borrow.Author.Tests.{lt-ltb, le-ltb, eq-eqb, ne_eqb}
use Rattle.arguments.specs.ArgumentWords.{dashes_first}
use Rattle.arguments.proofs.dashes.Goals as goal

pub returns-then-word-lt2 : goal.returns-then-word-lt2
unfolding dashes_first
returns-then-word-lt2 c = rw (lt-ltb (length c.args.word.now) 2 c.if-word-lt2.true)

pub returns-then-word-eq45 : goal.returns-then-word-eq45
unfolding dashes_first
returns-then-word-eq45 c = rw (le-ltb (length c.args.word.now) 2 c.if-word-lt2.false, eq-eqb (get_or c.args.word.now 0 0) 45 c.if-word-eq45.true)

pub returns : goal.returns
unfolding dashes_first
returns c = rw (le-ltb (length c.args.word.now) 2 c.if-word-lt2.false, ne_eqb (get_or c.args.word.now 0 0) 45 c.if-word-eq45.false)

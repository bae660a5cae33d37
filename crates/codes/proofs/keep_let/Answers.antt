-- `codes::keep_let` meets its contract: the memory at exit by the tests that led there.
-- Assumes nothing.
use borrow.Author.Rules.{rules}
use borrow.Author.Tests.{eq-eqb, ne_eqb, lt-ltb, le-ltb}
use Rattle.codes.specs.Lets.{kept}
use Rattle.codes.proofs.keep_let.Goals as goal

pub returns-then-n-lt-MOST_LETS : goal.returns-then-n-lt-MOST_LETS
unfolding kept
returns-then-n-lt-MOST_LETS c = simp (eq-eqb _ _ c.if-k-eq-LET_LINE.true, lt-ltb _ _ c.if-n-lt-MOST_LETS.true)

pub returns-else-n-lt-MOST_LETS : goal.returns-else-n-lt-MOST_LETS
unfolding kept
returns-else-n-lt-MOST_LETS c = simp (eq-eqb _ _ c.if-k-eq-LET_LINE.true, le-ltb _ _ c.if-n-lt-MOST_LETS.false)

pub returns-else-k-eq-LET_LINE : goal.returns-else-k-eq-LET_LINE
unfolding kept
returns-else-k-eq-LET_LINE c = simp (ne_eqb _ _ c.if-k-eq-LET_LINE.false)

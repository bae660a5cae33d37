-- `case_lines::more` meets its contract. By the test.
-- Assumes nothing.
use borrow.Author.Tests.{lt-ltb, le-ltb}
use Rattle.case_lines.specs.Fields.{with_digit}
use Rattle.case_lines.proofs.more.Goals as goal

pub returns-then-value-gt1000000000 : goal.returns-then-value-gt1000000000
unfolding with_digit
returns-then-value-gt1000000000 c = rw (lt-ltb 1000000000 c.args.value c.if-value-gt1000000000.true)

pub returns : goal.returns
unfolding with_digit
returns c = rw (le-ltb 1000000000 c.args.value c.if-value-gt1000000000.false)

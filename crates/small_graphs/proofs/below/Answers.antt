-- `small_graphs::below` meets its contract. By the test.
-- Assumes nothing.
use borrow.Author.Tests.{eq-eqb, ne_eqb}
use Rattle.small_graphs.specs.Numbers.{number_below}
use Rattle.small_graphs.proofs.below.Goals as goal

pub returns-then-end-eq0 : goal.returns-then-end-eq0
unfolding number_below
returns-then-end-eq0 c = rw (eq-eqb c.args.end 0 c.if-end-eq0.true)

pub returns : goal.returns
unfolding number_below
returns c = rw (ne_eqb c.args.end 0 c.if-end-eq0.false)

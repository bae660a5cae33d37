-- `side_relations::behind` meets its contract: each way is one of the definition's.
-- Assumes nothing.
use mathlib.Core.Path.{sym, ap}
use mathlib.Core.Bool.{cond}
use borrow.Author.Tests.{eq-eqb, ne_eqb}
use Rattle.side_relations.proofs.behind.Goals as goal

pub returns-then-code-k : goal.returns-then-code-k
returns-then-code-k c = let a = c.args in sym (ap (λ t. cond t a.a a.b) (eq-eqb a.code a.k c.if-code-k.true))

pub returns-else-code-k : goal.returns-else-code-k
returns-else-code-k c = let a = c.args in sym (ap (λ t. cond t a.a a.b) (ne_eqb a.code a.k c.if-code-k.false))

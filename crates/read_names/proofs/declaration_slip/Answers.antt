-- `read_names::declaration_slip` meets its contract. The definition makes the same two tests in the same order.
-- Assumes nothing.
use Rattle.read_names.specs.Slips.{declared_slip}
use borrow.Author.Tests.{eq-eqb, ne_eqb}
use mathlib.Core.Path.{sym, ◌∙◌}
use borrow.Author.Rules.{rules}
use Rattle.read_names.proofs.declaration_slip.Goals as goal

pub returns-then-reserved : goal.returns-then-reserved
unfolding declared_slip
returns-then-reserved c = rw (sym c.reserved.ensures ∙ c.if-reserved.true)

pub returns-then-find-eq0 : goal.returns-then-find-eq0
unfolding declared_slip
returns-then-find-eq0 c = rw (sym c.reserved.ensures ∙ c.if-reserved.false, ← c.find.ensures, eq-eqb _ _ c.if-find-eq0.true)

pub returns : goal.returns
unfolding declared_slip
returns c = rw (sym c.reserved.ensures ∙ c.if-reserved.false, ← c.find.ensures, ne_eqb _ _ c.if-find-eq0.false)

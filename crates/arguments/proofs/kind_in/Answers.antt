-- `arguments::kind_in` meets its contract. By the tests in their order.
-- Assumes nothing.
use mathlib.Core.Path.{sym, ◌∙◌}
use Rattle.arguments.proofs.Tested.{is_allowance, is_dot, is_other, is_file}
use Rattle.arguments.proofs.kind_in.Goals as goal

pub returns-then-same : goal.returns-then-same
returns-then-same c = is_allowance _ (sym c.same.ensures ∙ c.if-same.true)

pub returns-then-same-2 : goal.returns-then-same-2
returns-then-same-2 c = is_dot _ (sym c.same.ensures ∙ c.if-same.false) (sym c.same-2.ensures ∙ c.if-same-2.true)

pub returns-then-dashes : goal.returns-then-dashes
returns-then-dashes c = is_other _ (sym c.same.ensures ∙ c.if-same.false) (sym c.same-2.ensures ∙ c.if-same-2.false) (sym c.dashes.ensures ∙ c.if-dashes.true)

pub returns : goal.returns
returns c = is_file _ (sym c.same.ensures ∙ c.if-same.false) (sym c.same-2.ensures ∙ c.if-same-2.false) (sym c.dashes.ensures ∙ c.if-dashes.false)

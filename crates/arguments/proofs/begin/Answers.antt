-- `arguments::begin` meets its contract. By the tests in their order.
-- Assumes nothing.
use mathlib.Core.Path.{◌∙◌, ap}
use Rattle.arguments.specs.Arguments.{wrong_at}
use Rattle.arguments.proofs.Changes.{begun_known, begun_unknown}
use Rattle.arguments.proofs.begin.Goals as goal

pub returns-then-wanted_by : goal.returns-then-wanted_by
returns-then-wanted_by c = c.nothing_behind-s.ensures ∙ begun_known _ _ _ c.wanted_by.ensures c.if-wanted_by.true

pub returns : goal.returns
returns c =
    c.wrong_at.ensures ∙ ap (λ s. wrong_at s c.args.i) c.nothing_behind-s.ensures
    ∙ begun_unknown _ _ _ c.wanted_by.ensures c.if-wanted_by.false

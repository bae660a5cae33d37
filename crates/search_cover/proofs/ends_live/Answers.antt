-- `search_cover::ends_live` meets its contract.
-- Assumes nothing.
use mathlib.Core.Path.{sym, ◌∙◌, ap}
use mathlib.Core.Bool.{◌&&◌}
use Rattle.standings.specs.Steps.{ends_set}
use Rattle.search_cover.proofs.ends_live.Goals as goal

pub returns-then-member : goal.returns-then-member
returns-then-member c =
    let a = c.args in
    c.ends_set.ensures
    ∙ sym (ap (λ b. b && ends_set a.left.now a.p a.a) (sym c.member.ensures ∙ c.if-member.true))

pub returns-else-member : goal.returns-else-member
returns-else-member c =
    let a = c.args in
    sym (ap (λ b. b && ends_set a.left.now a.p a.a) (sym c.member.ensures ∙ c.if-member.false))

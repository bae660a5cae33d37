-- `search_cover::turns_cover` meets its contract.
-- Assumes nothing.
use mathlib.Core.Path.{sym, ◌∙◌, ap}
use mathlib.Core.Bool.{◌||◌}
use Rattle.search_cover.specs.inner.Rounds.{ends_by, pairs_by}
use Rattle.search_cover.proofs.turns_cover.Goals as goal

pub returns-then-turn_ends : goal.returns-then-turn_ends
returns-then-turn_ends c =
    let a = c.args in
    sym (ap (λ b. b || pairs_by a.t.now a.s.now a.m)
    (sym (c.turn_ends.ensures ∙ ap (λ e. ends_by a.t.now e a.m) c.enders_at-e.ensures) ∙ c.if-turn_ends.true))

pub returns : goal.returns
returns c =
    let a = c.args in
    c.some_pair_turns.ensures
    ∙ sym (ap (λ b. b || pairs_by a.t.now a.s.now a.m)
    (sym (c.turn_ends.ensures ∙ ap (λ e. ends_by a.t.now e a.m) c.enders_at-e.ensures)
    ∙ c.if-turn_ends.false))

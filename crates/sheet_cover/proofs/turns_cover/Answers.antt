-- `sheet_cover::turns_cover` meets its contract.
-- Assumes nothing.
use Prim.Native.Nat.{◌/◌, ◌%◌}
use mathlib.Core.Path.{sym, ◌∙◌, ap, ap₂}
use mathlib.Core.Bool.{◌||◌}
use Rattle.standings.specs.Steps.{enders}
use Rattle.sheet_standings.specs.RingCells.{first_in}
use Rattle.sheet_cover.specs.inner.Rounds.{ends_by, pairs_by}
use Rattle.sheet_cover.proofs.turns_cover.Goals as goal

pub returns-then-turn_ends : goal.returns-then-turn_ends
unfolding first_in
returns-then-turn_ends c =
    let w = c in
    let e = c in
    let a = e.args in
    sym (ap (λ b. b || pairs_by a.t.now a.s.now a.m)
    (sym (c.turn_ends.ensures
    ∙ ap₂ (λ x y. ends_by x y a.m) w.word-2.ensures
    (e.enders_at-e.ensures ∙ ap (λ h. enders a.right.now (h / 256 % 256)) e.word.ensures))
    ∙ c.if-turn_ends.true))

pub returns : goal.returns
unfolding first_in
returns c =
    let w = c in
    let e = c in
    let a = e.args in
    c.some_pair_turns.ensures
    ∙ sym (ap (λ b. b || pairs_by a.t.now a.s.now a.m)
    (sym (c.turn_ends.ensures
    ∙ ap₂ (λ x y. ends_by x y a.m) w.word-2.ensures
    (e.enders_at-e.ensures ∙ ap (λ h. enders a.right.now (h / 256 % 256)) e.word.ensures))
    ∙ c.if-turn_ends.false))

-- `texts::declared` meets its contract. By the places where spaces and words end.
-- Assumes nothing.
use mathlib.Core.Path.{sym, ◌∙◌}
use Rattle.texts.proofs.LineLaws.{declared_hit, declared_miss}
use Rattle.texts.proofs.declared.Goals as goal

pub returns-then-same : goal.returns-then-same
returns-then-same c =
    let b = c in
    declared_hit _ _ _ _ b.part_end-a.ensures.2 b.part_end-b.ensures.2 _ _ c.part_end-c.ensures.2 c.part_end-d.ensures.2 (sym c.same.ensures ∙ c.if-same.true)

pub returns : goal.returns
returns c =
    let b = c in
    declared_miss _ _ _ _ b.part_end-a.ensures.2 b.part_end-b.ensures.2 (sym c.same.ensures ∙ c.if-same.false)

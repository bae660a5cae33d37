-- `draw_rows::event_count` meets its contract.
-- Assumes nothing.
use mathlib.Core.Path.{◌∙◌, ap, sym}
use Rattle.draw_rows.specs.Rows.{event_count}
use Rattle.draw_rows.proofs.Steps.{events_alone, events_ring, events_line}
use Rattle.draw_rows.proofs.event_count.Goals as goal

pub returns-then-size-lt2 : goal.returns-then-size-lt2
returns-then-size-lt2 c = let a = c.args in events_alone a.size c.if-size-lt2.true ∙ sym (ap (λ b. event_count b a.size) c.if-ring.true)

pub returns-then-ring : goal.returns-then-ring
returns-then-ring c = let a = c.args in events_ring a.size c.if-size-lt2.false ∙ sym (ap (λ b. event_count b a.size) c.if-ring.true)

pub returns : goal.returns
returns c = let a = c.args in events_line a.size ∙ sym (ap (λ b. event_count b a.size) c.if-ring.false)

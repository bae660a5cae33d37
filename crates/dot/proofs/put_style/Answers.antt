-- `dot::put_style` meets its contract. One text or the other.
-- Assumes nothing.
use Rattle.dot.proofs.Lines.{style_solid, style_dashed}
use Rattle.dot.proofs.put_style.Goals as goal

pub returns-then-step : goal.returns-then-step
returns-then-step c = style_solid c.if-step.true c.put_text.ensures

pub returns : goal.returns
returns c = style_dashed c.if-step.false c.put_text-2.ensures

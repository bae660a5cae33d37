-- `texts::line_after` meets its contract. The byte that ends the line, or the end of the text.
-- Assumes nothing.
use native.Mathlib.Omega.{arith}
use Rattle.texts.proofs.LineLaws.{after_byte, after_end}
use Rattle.texts.proofs.line_after.Goals as goal

pub returns-then-end-text : goal.returns-then-end-text
returns-then-end-text c = (omega arith, omega arith, after_byte _ _ c.if-end-text.true)

pub returns : goal.returns
returns c = (omega arith, omega arith, after_end _ _ c.if-end-text.false)

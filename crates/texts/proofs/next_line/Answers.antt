-- `texts::next_line` meets its contract. Behind the line's end.
-- Assumes nothing.
use native.Mathlib.Omega.{arith}
use mathlib.Core.Path.{◌∙◌, ap}
use Rattle.texts.specs.Lines.{in_line, behind}
use Rattle.texts.proofs.LineLaws.{part_back}
use Rattle.texts.proofs.next_line.Goals as goal

pub returns : goal.returns
returns c =
    let p = c.part_end.ensures in
    (omega arith, c.line_after.ensures.0, omega arith, c.line_after.ensures.2 ∙ ap behind (part_back in_line _ _ _ p.2))

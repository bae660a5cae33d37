-- `case_lines::escape::keep` meets its contract. By the test.
-- Assumes nothing.
use mathlib.Core.Path.{refl}
use Rattle.case_lines.proofs.Putting.{puts_none}
use Rattle.case_lines.proofs.escape.keep.Goals as goal

pub returns : goal.returns
returns c = (puts_none _ _ _ c.if-used-text.false, refl)

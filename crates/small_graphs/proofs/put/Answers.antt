-- `small_graphs::put` meets its contract. By the test.
-- Assumes nothing.
use native.Mathlib.Omega.{arith}
use Rattle.case_lines.proofs.Putting.{puts_none}
use Rattle.small_graphs.proofs.put.Goals as goal

pub returns : goal.returns
returns c = puts_none _ _ _ (omega arith)

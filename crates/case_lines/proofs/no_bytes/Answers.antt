-- `case_lines::no_bytes` meets its contract. By the test.
-- Assumes nothing.
use native.Mathlib.Omega.{arith}
use Rattle.case_lines.proofs.FieldLaws.{dash_first, dash_empty}
use Rattle.case_lines.proofs.no_bytes.Goals as goal

pub returns-then-text-eq0 : goal.returns-then-text-eq0
returns-then-text-eq0 c = dash_empty _ c.if-text-eq0.true

pub returns : goal.returns
returns c = dash_first _ (omega arith)

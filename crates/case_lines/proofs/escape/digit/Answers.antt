-- `case_lines::escape::digit` meets its contract. By the tests.
-- Assumes nothing.
use native.Mathlib.Omega.{arith}
use Rattle.case_lines.proofs.Stepping.{digit_ten, digit_six, digit_under, digit_between, digit_over}
use Rattle.case_lines.proofs.escape.digit.Goals as goal

pub returns-in-48-to-57 : goal.returns-in-48-to-57
returns-in-48-to-57 c = (digit_ten _ (omega arith) (omega arith), omega arith)

pub returns-in-97-to-102 : goal.returns-in-97-to-102
returns-in-97-to-102 c = (digit_six _ (omega arith) (omega arith), omega arith)

pub returns-in_default : goal.returns-in_default
returns-in_default c = (digit_under c.args.b (omega arith), omega arith)

pub returns-in_default-2 : goal.returns-in_default-2
returns-in_default-2 c = (digit_between c.args.b (omega arith) (omega arith), omega arith)

pub returns-in_default-3 : goal.returns-in_default-3
returns-in_default-3 c = (digit_over c.args.b (omega arith), omega arith)

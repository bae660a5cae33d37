-- `case_lines::escape::step` meets its contract. In each arm it is known what comes next.
-- Assumes nothing.
use Rattle.case_lines.specs.declared.escape.Next.TheVariants.{Plain, Escape, High, Low}
use Rattle.case_lines.proofs.Stepping.{known, plain_escape, plain_byte, escape_x, escape_n, escape_byte, high_digit, low_digit}
use Rattle.case_lines.proofs.escape.step.Goals as goal

pub returns-then-b-eq92 : goal.returns-then-b-eq92
returns-then-b-eq92 c = known _ _ Plain c.in-Plain.is (plain_escape _ _ _ c.if-b-eq92.true)

pub returns-then-b-eq120 : goal.returns-then-b-eq120
returns-then-b-eq120 c = known _ _ Escape c.in-Escape.is (escape_x _ _ _ c.if-b-eq120.true)

pub returns-then-b-eq110 : goal.returns-then-b-eq110
returns-then-b-eq110 c =
    known _ _ Escape c.in-Escape.is (escape_n _ c.if-b-eq120.false c.if-b-eq110.true c.keep-then-b-eq110.ensures)

pub returns-else-b-eq92 : goal.returns-else-b-eq92
returns-else-b-eq92 c =
    known _ _ Plain c.in-Plain.is (plain_byte _ c.if-b-eq92.false c.keep.ensures)

pub returns-else-b-eq110 : goal.returns-else-b-eq110
returns-else-b-eq110 c =
    known _ _ Escape c.in-Escape.is (escape_byte _ c.if-b-eq120.false c.if-b-eq110.false c.keep-in-Escape.ensures)

pub returns-in-High : goal.returns-in-High
returns-in-High c = known _ _ High c.in-High.is (high_digit _ _ _ _ c.digit.ensures.0 c.digit.ensures.1)

pub returns-in-Low : goal.returns-in-Low
returns-in-Low c =
    known _ _ (Low _) c.in-Low.is (low_digit _ _ _ c.digit-in-Low.ensures.0 c.keep-in-Low.ensures)

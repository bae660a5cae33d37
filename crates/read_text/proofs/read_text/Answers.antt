-- `read_text::read_text` meets its contract: each way out gives the answer that the text has.
-- Assumes nothing.
use Rattle.read_text.proofs.Answers.{answer_long, answer_bad, answer_lines}
use Rattle.read_text.proofs.read_text.Goals as goal

pub returns-then-text-gt4096 : goal.returns-then-text-gt4096
returns-then-text-gt4096 c =
    answer_long _ _ _ c.if-text-gt4096.true c.told-out c.clear.ensures

pub returns-in-Some : goal.returns-in-Some
returns-in-Some c =
    answer_bad _ _ _ _ c.if-text-gt4096.false c.in-Some.ensures
    c.told-out c.clear.ensures

pub returns : goal.returns
returns c =
    let l = c.every_line in
    answer_lines _ _ c.if-text-gt4096.false c.in_default.ensures l.result _ _
    l.ensures.0 l.ensures.1 c.told-out
    c.clear.ensures

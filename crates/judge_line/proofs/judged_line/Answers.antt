-- `judge_line::judged_line` meets its contract: the line is that of what the judgement says.
-- Assumes nothing.
use Rattle.judge_line.proofs.JudgedLaws.{as_said}
use Rattle.judge_line.proofs.judged_line.Goals as goal

pub returns : goal.returns
returns c = (as_said _ _ c.judge-j.ensures.judges c.line-n.ensures, c.judge-j.ensures.judges)

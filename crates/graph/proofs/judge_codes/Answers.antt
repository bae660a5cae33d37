-- `graph::judge_codes` meets its contract: an array of 4,096 codes is as long as that.
-- Assumes nothing.
use Rattle.graph.proofs.judge_codes.Goals as goal

pub returns : goal.returns
returns c = record { sized = c.judge_first-arg-1.given; judged = c.judge_first.ensures }

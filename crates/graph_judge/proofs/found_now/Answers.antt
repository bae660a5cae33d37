-- `graph_judge::found_now` meets its contract: the state behind the claim.
-- Assumes nothing.
use Rattle.graph_judge.proofs.Ends.{found_state}
use Rattle.graph_judge.proofs.found_now.Goals as goal

pub returns : goal.returns
returns c = found_state c.args.s c.args.m

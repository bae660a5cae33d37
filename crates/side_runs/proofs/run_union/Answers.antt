-- `side_runs::run_union` meets its contract.
-- Assumes nothing.
use Rattle.side_runs.proofs.RunningAll.{union_all_lem}
use Rattle.side_runs.proofs.run_union.Goals as goal

pub returns : goal.returns
returns c = union_all_lem _ _ _ _ _ _ _ _ c.run_kind-n.ensures.0 c.run_kind-n.ensures.1 (c.give.ensures _) (c.unite_times.ensures _)

-- `graph_judge::judge` meets its contract: the codes are run on blank tables.
-- Assumes nothing.
use mathlib.Core.Path.{ap}
use Rattle.memory.specs.Memory.{zeros}
use Rattle.rows.specs.Rows.{blank}
use Rattle.graph_tables.specs.Machine.{Judging}
use Rattle.graph_judge.specs.Machine.{beginning}
use Rattle.graph_judge.proofs.judge.Goals as goal

pub returns : goal.returns
unfolding beginning blank zeros
returns c = ap (λ (j : Judging). j.state) c.run.ensures

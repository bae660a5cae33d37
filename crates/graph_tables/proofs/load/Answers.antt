-- `graph_tables::load` meets its contract: inside the memory what would stand past it does not matter, and past it stands a blank table.
-- Assumes nothing.
use native.Mathlib.Omega.{arith}
use Rattle.graph_tables.proofs.Places.{inside_same, past_blank}
use Rattle.graph_tables.proofs.load.Goals as goal

pub returns-then-i-mem : goal.returns-then-i-mem
returns-then-i-mem c = inside_same c.args.mem.now c.args.i _ _ (omega arith)

pub returns-else-i-mem : goal.returns-else-i-mem
returns-else-i-mem c = past_blank c.args.mem.now c.args.i (omega arith)

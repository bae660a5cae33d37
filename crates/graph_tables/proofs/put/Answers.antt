-- `graph_tables::put` meets its contract: past the memory nothing is put.
-- Assumes nothing.
use native.Mathlib.Omega.{arith}
use mathlib.Core.Path.{sym}
use lib.Seq.{set_out}
use Rattle.graph_tables.proofs.put.Goals as goal

pub returns-else-i-mem : goal.returns-else-i-mem
returns-else-i-mem c = sym (set_out c.args.mem.now c.args.i c.args.t (omega arith))

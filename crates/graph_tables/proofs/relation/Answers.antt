-- `graph_tables::relation` meets its contract: the rows of one of the 16 relations, or none.
-- Assumes nothing.
use Prim.Native.Nat.{◌*◌}
use native.Mathlib.Omega.{arith}
use mathlib.Core.Path.{refl}
use Rattle.graph_tables.proofs.Places.{relation_read, relation_none}
use Rattle.graph_tables.proofs.relation.Goals as goal

pub returns-then-r : goal.returns-then-r
returns-then-r c =
    let a = c.args in
    relation_read a.listed.now a.r (64 * a.r) 64 c.copy.new.out (omega arith) refl refl c.copy.ensures

pub returns-else-r : goal.returns-else-r
returns-else-r c = relation_none c.args.listed.now c.args.r (omega arith)

-- `side_tables::cut_at` meets its contract.
-- Assumes nothing.
use Prim.Native.Nat.{◌+◌, ◌*◌}
use Rattle.side_tables.proofs.Walks.{cut_made, set_twice_length}
use native.Mathlib.Omega.{arith}
use lib.ListN.{length-set}
use Rattle.side_tables.specs.Layout.{ENDS, ROW}
use Rattle.side_tables.proofs.cut_at.Goals as goal

pub bounds-table-a : goal.bounds-table-a
bounds-table-a c = omega (arith, c.requires.1)

pub bounds-table-a-2 : goal.bounds-table-a-2
bounds-table-a-2 c = omega (arith, c.requires.1)

pub bounds-table-a-3 : goal.bounds-table-a-3
bounds-table-a-3 c = simp length-set (omega (arith, c.requires.1))

pub bounds-table-a-4 : goal.bounds-table-a-4
bounds-table-a-4 c = simp length-set (omega (arith, c.requires.1))

pub shape_of-table : goal.shape_of-table
shape_of-table c = set_twice_length c.args.table.now (ROW * c.args.a) (ENDS + c.args.a) c.kept_if-first.result c.kept_if-last.result

pub returns : goal.returns
returns c = cut_made c.args.from c.args.to c.args.x c.args.y c.args.a c.args.table.now _ _ _ _ c.member.ensures c.kept_if-first.ensures c.member-2.ensures c.kept_if-last.ensures

-- `side_tables::cut_ends` meets its contract. The invariant: the atoms that are left, changed in the table as it is, are all of them changed in the
-- table at the start.
-- Assumes nothing.
use Rattle.side_tables.specs.InPlace.{cut_at, cut}
use Rattle.memory.proofs.Walks.{each_more, each_end}
use Rattle.memory.specs.Memory.{for_each}
use Rattle.kat.specs.Lists.{upto}
use mathlib.Core.Path.{refl, sym, ◌∙◌, ap}
use native.Mathlib.Omega.{arith}
use Prim.Native.Nat.{◌+◌}
use Rattle.side_tables.proofs.cut_ends.Goals as goal

pub loop-a-init : goal.loop-a-init
unfolding cut
loop-a-init c = (omega arith, omega arith, refl)

pub cut_at-requires : goal.cut_at-requires
cut_at-requires c = (omega arith, c.loop-a.invariant.1)

pub loop-a-preserved : goal.loop-a-preserved
loop-a-preserved c =
    (omega arith, c.cut_at.auto.table ∙ c.loop-a.invariant.1, ap (for_each (cut_at c.args.from c.args.to c.args.x c.args.y) (upto (c.loop-a.a + 1) 64)) c.cut_at.ensures ∙ each_more (cut_at c.args.from c.args.to c.args.x c.args.y) c.loop-a.a 64 c.loop-a.table (omega arith) ∙ c.loop-a.invariant.2)

pub shape_of-table : goal.shape_of-table
shape_of-table c = c.loop-a.invariant.1 ∙ sym c.requires

pub returns : goal.returns
returns c = sym (each_end (cut_at c.args.from c.args.to c.args.x c.args.y) c.loop-a.a 64 c.loop-a.table (omega arith)) ∙ c.loop-a.invariant.2

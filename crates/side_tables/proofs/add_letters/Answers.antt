-- `side_tables::add_letters` meets its contract. The invariant: the relations that are left, marked in the table as it is, are all of them marked
-- in the table at the start.
-- Assumes nothing.
use Rattle.side_tables.proofs.Walks.{lettered_made}
use Rattle.side_tables.specs.InPlace.{lettered_at}
use Rattle.memory.proofs.Walks.{each_more, each_end}
use Rattle.memory.specs.Memory.{for_each}
use Rattle.kat.specs.Lists.{upto}
use mathlib.Core.Path.{refl, sym, ◌∙◌, ap}
use native.Mathlib.Omega.{arith}
use Prim.Native.Nat.{◌+◌}
use Rattle.side_tables.proofs.add_letters.Goals as goal

pub loop-r-init : goal.loop-r-init
loop-r-init c = (omega arith, refl, refl)

pub loop-r-preserved : goal.loop-r-preserved
loop-r-preserved c =
    let g = lettered_at c.args.k c.args.s in
    (omega arith, c.mark.auto.table ∙ c.loop-r.invariant.1, ap (for_each g (upto (c.loop-r.r + 1) 16)) (lettered_made c.args.k c.args.s c.loop-r.r c.loop-r.table _ _ c.member.ensures c.mark.ensures) ∙ each_more g c.loop-r.r 16 c.loop-r.table (omega arith) ∙ c.loop-r.invariant.2)

pub shape_of-table : goal.shape_of-table
shape_of-table c = c.loop-r.invariant.1

pub returns : goal.returns
returns c = sym (each_end (lettered_at c.args.k c.args.s) c.loop-r.r 16 c.loop-r.table (omega arith)) ∙ c.loop-r.invariant.2

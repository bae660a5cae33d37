-- `side_tables::put_into` meets its contract. The invariant: the members left, put into the table as it is, are all of them put into the table
-- at the start. The measure is the count of ones of the set left.
-- Assumes nothing.
use Rattle.side_tables.proofs.Walks.{members_more, members_end}
use Rattle.side_tables.specs.InPlace.{put_into}
use Rattle.bits.proofs.Lowest.{lowest}
use lib.ListN.{length-set}
use lib.Count.{trailing_le}
use mathlib.Core.Path.{refl, sym, ◌∙◌}
use native.Mathlib.Omega.{arith}
use borrow.Author.Rules.{rules}
use Rattle.side_tables.proofs.put_into.Goals as goal

pub loop-left-init : goal.loop-left-init
loop-left-init c = (search rules, refl, refl)

pub overflow_cast-k : goal.overflow_cast-k
overflow_cast-k c = omega (arith, trailing_le 64 c.loop-left.left)

pub overflow_add-table : goal.overflow_add-table
overflow_add-table c = omega (arith, (lowest 64 c.loop-left.left c.loop-left.invariant.0 c.loop-left-test.true).inside, c.loop-left.invariant.1, c.requires)

pub offset_bounds-table-base : goal.offset_bounds-table-base
offset_bounds-table-base c = omega (arith, (lowest 64 c.loop-left.left c.loop-left.invariant.0 c.loop-left-test.true).inside, c.loop-left.invariant.1, c.requires)

pub bounds-table-base : goal.bounds-table-base
bounds-table-base c = omega (arith, (lowest 64 c.loop-left.left c.loop-left.invariant.0 c.loop-left-test.true).inside, c.loop-left.invariant.1, c.requires)

pub overflow_add-table-in-loop-left : goal.overflow_add-table-in-loop-left
overflow_add-table-in-loop-left c = omega (arith, (lowest 64 c.loop-left.left c.loop-left.invariant.0 c.loop-left-test.true).inside, c.loop-left.invariant.1, c.requires)

pub offset_bounds-table-base-in-loop-left : goal.offset_bounds-table-base-in-loop-left
offset_bounds-table-base-in-loop-left c = omega (arith, (lowest 64 c.loop-left.left c.loop-left.invariant.0 c.loop-left-test.true).inside, c.loop-left.invariant.1, c.requires)

pub bounds-table-base-in-loop-left : goal.bounds-table-base-in-loop-left
bounds-table-base-in-loop-left c = omega (arith, (lowest 64 c.loop-left.left c.loop-left.invariant.0 c.loop-left-test.true).inside, c.loop-left.invariant.1, c.requires)

pub loop-left-smaller : goal.loop-left-smaller
loop-left-smaller c = omega (arith, (lowest 64 c.loop-left.left c.loop-left.invariant.0 c.loop-left-test.true).count)

pub loop-left-preserved : goal.loop-left-preserved
unfolding put_into
loop-left-preserved c =
    (omega (arith, (lowest 64 c.loop-left.left c.loop-left.invariant.0 c.loop-left-test.true).less), length-set c.loop-left.table _ _ ∙ c.loop-left.invariant.1, members_more (put_into c.args.base c.args.f) (lowest 64 c.loop-left.left c.loop-left.invariant.0 c.loop-left-test.true) c.loop-left.table ∙ c.loop-left.invariant.2)

pub returns : goal.returns
unfolding put_into
returns c =
    sym (members_end (put_into c.args.base c.args.f) c.loop-left.left c.loop-left.table c.loop-left-test.false) ∙ c.loop-left.invariant.2

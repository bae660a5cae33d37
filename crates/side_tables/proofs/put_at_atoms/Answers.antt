-- `side_tables::put_at_atoms` meets its contract. The invariant: the atoms left, put into the table as it is, are all of them put into the table at
-- the start. The measure is the count of ones of the set left.
-- Assumes nothing.
use Rattle.side_tables.proofs.Walks.{members_more, members_end}
use Rattle.side_tables.specs.InPlace.{put_at_atom}
use Rattle.bits.proofs.Lowest.{lowest}
use lib.ListN.{length-set}
use lib.Count.{trailing_le}
use mathlib.Core.Path.{refl, sym, ◌∙◌}
use native.Mathlib.Omega.{arith}
use borrow.Author.Rules.{rules}
use Rattle.side_tables.proofs.put_at_atoms.Goals as goal

pub loop-left-init : goal.loop-left-init
loop-left-init c = (search rules, refl, refl)

pub overflow_cast-a : goal.overflow_cast-a
overflow_cast-a c = omega (arith, trailing_le 64 c.loop-left.left)

pub overflow_mul-table : goal.overflow_mul-table
overflow_mul-table c = omega (arith, (lowest 64 c.loop-left.left c.loop-left.invariant.0 c.loop-left-test.true).inside, c.loop-left.invariant.1, c.requires.0, c.requires.1)

pub overflow_add-table : goal.overflow_add-table
overflow_add-table c = omega (arith, (lowest 64 c.loop-left.left c.loop-left.invariant.0 c.loop-left-test.true).inside, c.loop-left.invariant.1, c.requires.0, c.requires.1)

pub offset_bounds-table-a : goal.offset_bounds-table-a
offset_bounds-table-a c = omega (arith, (lowest 64 c.loop-left.left c.loop-left.invariant.0 c.loop-left-test.true).inside, c.loop-left.invariant.1, c.requires.0, c.requires.1)

pub bounds-table-a : goal.bounds-table-a
bounds-table-a c = omega (arith, (lowest 64 c.loop-left.left c.loop-left.invariant.0 c.loop-left-test.true).inside, c.loop-left.invariant.1, c.requires.0, c.requires.1)

pub overflow_mul-table-in-loop-left : goal.overflow_mul-table-in-loop-left
overflow_mul-table-in-loop-left c = omega (arith, (lowest 64 c.loop-left.left c.loop-left.invariant.0 c.loop-left-test.true).inside, c.loop-left.invariant.1, c.requires.0, c.requires.1)

pub overflow_add-table-in-loop-left : goal.overflow_add-table-in-loop-left
overflow_add-table-in-loop-left c = omega (arith, (lowest 64 c.loop-left.left c.loop-left.invariant.0 c.loop-left-test.true).inside, c.loop-left.invariant.1, c.requires.0, c.requires.1)

pub offset_bounds-table-a-in-loop-left : goal.offset_bounds-table-a-in-loop-left
offset_bounds-table-a-in-loop-left c = omega (arith, (lowest 64 c.loop-left.left c.loop-left.invariant.0 c.loop-left-test.true).inside, c.loop-left.invariant.1, c.requires.0, c.requires.1)

pub bounds-table-a-in-loop-left : goal.bounds-table-a-in-loop-left
bounds-table-a-in-loop-left c = omega (arith, (lowest 64 c.loop-left.left c.loop-left.invariant.0 c.loop-left-test.true).inside, c.loop-left.invariant.1, c.requires.0, c.requires.1)

pub loop-left-smaller : goal.loop-left-smaller
loop-left-smaller c = omega (arith, (lowest 64 c.loop-left.left c.loop-left.invariant.0 c.loop-left-test.true).count)

pub loop-left-preserved : goal.loop-left-preserved
unfolding put_at_atom
loop-left-preserved c =
    (omega (arith, (lowest 64 c.loop-left.left c.loop-left.invariant.0 c.loop-left-test.true).less), length-set c.loop-left.table _ _ ∙ c.loop-left.invariant.1, members_more (put_at_atom c.args.base c.args.f) (lowest 64 c.loop-left.left c.loop-left.invariant.0 c.loop-left-test.true) c.loop-left.table ∙ c.loop-left.invariant.2)

pub returns : goal.returns
unfolding put_at_atom
returns c =
    sym (members_end (put_at_atom c.args.base c.args.f) c.loop-left.left c.loop-left.table c.loop-left-test.false) ∙ c.loop-left.invariant.2

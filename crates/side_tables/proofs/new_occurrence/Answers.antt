-- `side_tables::new_occurrence` meets its contract.
-- Assumes nothing.
use Rattle.side_tables.specs.InPlace.{added}
use borrow.Author.Tests.{le-ltb}
use mathlib.Core.Path.{sym, refl}
use Rattle.side_tables.proofs.new_occurrence.Goals as goal

pub returns-else-k-lt64 : goal.returns-else-k-lt64
unfolding added
returns-else-k-lt64 c = sym (rw (le-ltb c.args.k 64 c.if-k-lt64.false) refl)

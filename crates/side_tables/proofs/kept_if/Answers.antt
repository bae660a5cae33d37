-- `side_tables::kept_if` meets its contract.
-- Assumes nothing.
use Rattle.side_tables.specs.InPlace.{kept_if}
use mathlib.Core.Path.{refl}
use Rattle.side_tables.proofs.kept_if.Goals as goal

pub returns-then-on : goal.returns-then-on
unfolding kept_if
returns-then-on c = rw c.if-on.true refl

pub returns-else-on : goal.returns-else-on
unfolding kept_if
returns-else-on c = rw c.if-on.false refl

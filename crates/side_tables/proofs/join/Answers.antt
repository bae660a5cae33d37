-- `side_tables::join` meets its contract: where none may be last, or none first, there is nothing to join.
-- Assumes nothing.
use Rattle.side_tables.proofs.Walks.{none_last, none_first}
use Rattle.side_tables.proofs.join.Goals as goal

pub returns-then-from-eq0 : goal.returns-then-from-eq0
returns-then-from-eq0 c = none_last c.args.from c.args.to c.args.table.now c.if-from-eq0.true

pub returns-then-to-eq0 : goal.returns-then-to-eq0
returns-then-to-eq0 c = none_first c.args.from c.args.to c.args.table.now c.if-to-eq0.true

pub returns : goal.returns
returns c = c.join_atoms.ensures

-- `rows::add_selves` meets its contract. The invariant: what is left of the rows, changed in the table as it is, gives all of them changed in the table
-- at the start.
-- Assumes nothing.
use Rattle.rows.proofs.EachRow.{Left, self_row}
use Rattle.rows.proofs.add_selves.Given as goal

abbrev pub invariant-loop-x : goal.invariant-loop-x
invariant-loop-x l = Left (self_row l.n) l.initial.t l.t l.x

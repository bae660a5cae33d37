-- `rows::join` meets its contract. The invariant: what is left of the rows, changed in the table as it is, gives all of them changed in the table
-- at the start.
-- Assumes nothing.
use Rattle.rows.proofs.EachRow.{Left, join_row}
use Rattle.rows.proofs.join.Given as goal

abbrev pub invariant-loop-x : goal.invariant-loop-x
invariant-loop-x l = Left (join_row l.u) l.initial.t l.t l.x

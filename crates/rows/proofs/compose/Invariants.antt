-- `rows::compose` meets its contract. The invariant: what is left of the rows, put into the table as it is, gives the table with all of them.
-- Assumes nothing.
use Rattle.rows.proofs.EachRow.{Left, compose_row}
use Rattle.rows.proofs.compose.Given as goal

abbrev pub invariant-loop-x : goal.invariant-loop-x
invariant-loop-x l = Left (compose_row l.t l.u) l.initial.out l.out l.x

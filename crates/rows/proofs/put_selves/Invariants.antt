-- `rows::put_selves` meets its contract. The invariant: what is left of the rows, put into the table as it is, gives the table with all of them.
-- Assumes nothing.
use Rattle.rows.proofs.EachRow.{Left, test_row}
use Rattle.rows.proofs.put_selves.Given as goal

abbrev pub invariant-loop-x : goal.invariant-loop-x
invariant-loop-x l = Left (test_row l.s) l.initial.t l.t l.x

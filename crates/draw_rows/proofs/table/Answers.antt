-- `draw_rows::table` meets its contract: among the tables what would stand past it does not matter, and past them stands a blank table.
-- Assumes nothing.
use native.Mathlib.Omega.{arith}
use Rattle.draw_rows.proofs.Tables.{inside_table, blank_table}
use Rattle.draw_rows.proofs.table.Goals as goal

pub returns-then-r-tables : goal.returns-then-r-tables
returns-then-r-tables c = inside_table c.args.tables.now c.args.r _ (omega arith)

pub returns-else-r-tables : goal.returns-else-r-tables
returns-else-r-tables c = blank_table c.args.tables.now c.args.r (omega arith)

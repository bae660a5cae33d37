-- `sheet_steps::word_behind` meets its contract: past the table's end there is 0.
-- Assumes nothing.
use Prim.Native.Nat.{◌+◌}
use native.Mathlib.Omega.{arith}
use mathlib.Core.Path.{sym}
use Rattle.standings.proofs.Places.{past_end}
use borrow.Author.Rules.{rules}
use Rattle.side_tables.specs.Layout.{TABLE}
use Rattle.sheet_steps.proofs.word_behind.Goals as goal

pub returns-else-k-lt-TABLE : goal.returns-else-k-lt-TABLE
returns-else-k-lt-TABLE c =
    let a = c.args in
    sym (past_end a.table.now TABLE (omega arith) (a.base + a.k) (omega arith))

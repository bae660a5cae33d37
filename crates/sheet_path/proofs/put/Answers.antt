-- `sheet_path::put` meets its contract: the halves of the two words are stored.
-- Assumes nothing.
use native.Mathlib.Omega.{arith}
use lib.ListN.{length-set}
use Rattle.sheet_path.proofs.Four.{standing_written}
use borrow.Author.Rules.{rules}
use Rattle.sheet_path.proofs.put.Goals as goal

pub bounds-to-1 : goal.bounds-to-1
bounds-to-1 c = simp length-set (omega arith)

pub bounds-to-2 : goal.bounds-to-2
bounds-to-2 c = simp length-set (omega arith)

pub bounds-to-3 : goal.bounds-to-3
bounds-to-3 c = simp length-set (omega arith)

pub returns : goal.returns
returns c = let a = c.args in standing_written a.to.now a.p a.s (omega arith) (omega arith) (omega arith)

-- `search_ring::join` meets its contract: one word is stored, or none.
-- Assumes nothing.
use native.Mathlib.Omega.{arith}
use Rattle.search_ring.proofs.Columns.{join_in, join_out}
use Rattle.search_ring.proofs.join.Goals as goal

pub returns-then-k-lt-MOST_RIGHT : goal.returns-then-k-lt-MOST_RIGHT
returns-then-k-lt-MOST_RIGHT c = let a = c.args in join_in a.to.now a.k a.w (omega arith)

pub returns-else-k-lt-MOST_RIGHT : goal.returns-else-k-lt-MOST_RIGHT
returns-else-k-lt-MOST_RIGHT c = let a = c.args in join_out a.to.now a.k a.w (omega arith)

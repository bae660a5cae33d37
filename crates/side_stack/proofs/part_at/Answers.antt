-- `side_stack::part_at` meets its contract: the part on top of n parts stands at the places 2 * n and 2 * n + 1.
-- Assumes nothing.
use Rattle.side_stack.proofs.PartsInMemory.{top_in, top_none}
use native.Mathlib.Omega.{arith}
use Rattle.side_stack.proofs.part_at.Goals as goal

pub returns-then-n-gt0 : goal.returns-then-n-gt0
returns-then-n-gt0 c = (top_in c.args.parts.now c.args.n _ _ c.if-n-gt0.true c.word-w.ensures c.word.ensures, omega arith)

pub returns : goal.returns
returns c = (top_none c.args.parts.now c.args.n c.if-n-gt0.false, omega arith)

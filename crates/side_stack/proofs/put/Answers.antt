-- `side_stack::put` meets its contract.
-- Assumes nothing.
use Rattle.side_stack.proofs.PartsInMemory.{stored_used, stored_stack, full_used, full_stack}
use lib.ListN.{length-set}
use native.Mathlib.Omega.{arith}
use Rattle.side_stack.proofs.put.Goals as goal

pub bounds-parts-n-then-n-lt-MOST_PARTS : goal.bounds-parts-n-then-n-lt-MOST_PARTS
bounds-parts-n-then-n-lt-MOST_PARTS c = simp length-set (omega arith)

pub bounds-parts-1 : goal.bounds-parts-1
bounds-parts-1 c = simp length-set (omega arith)

pub returns-then-n-lt-MOST_PARTS : goal.returns-then-n-lt-MOST_PARTS
returns-then-n-lt-MOST_PARTS c = (stored_used c.args.parts.now c.requires.0 c.args.n _ _ c.if-n-lt-MOST_PARTS.true, stored_stack c.args.parts.now c.requires.0 c.args.n _ _ c.if-n-lt-MOST_PARTS.true _ _ c.mark_of-w.ensures)

pub returns-else-n-lt-MOST_PARTS : goal.returns-else-n-lt-MOST_PARTS
returns-else-n-lt-MOST_PARTS c = (full_used c.args.parts.now c.requires.0 c.args.n (omega arith), full_stack c.args.parts.now c.requires.0 c.args.n (omega arith) c.args.part)

-- `side_atoms::peek` meets its contract: the word below the height is on top, and nothing is on top of an empty stack.
-- Assumes nothing.
use native.Mathlib.Omega.{arith}
use mathlib.Core.Path.{sym}
use Rattle.side_atoms.proofs.Stack.{top_stacked, top_empty}
use Rattle.side_atoms.proofs.peek.Goals as goal

pub returns-then-n-gt0 : goal.returns-then-n-gt0
returns-then-n-gt0 c = sym (top_stacked _ _ (omega arith))

pub returns-else-n-gt0 : goal.returns-else-n-gt0
returns-else-n-gt0 c = sym (top_empty _ _ (omega arith))

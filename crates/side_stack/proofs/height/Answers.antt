-- `side_stack::height` meets its contract.
-- Assumes nothing.
use Rattle.std.proofs.Common.{rules}
use Rattle.side_stack.specs.Stack.{height_in}
use Rattle.side_stack.proofs.height.Goals as goal

pub returns : goal.returns
unfolding height_in
returns c = search rules

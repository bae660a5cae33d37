-- `side_stack::used` meets its contract.
-- Assumes nothing.
use Rattle.std.proofs.Common.{rules}
use Rattle.side_stack.specs.Stack.{used_in}
use Rattle.side_stack.proofs.used.Goals as goal

pub returns : goal.returns
unfolding used_in
returns c = search rules

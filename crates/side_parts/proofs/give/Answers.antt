-- `side_parts::give` meets its contract.
-- Assumes nothing.
use Rattle.side_parts.proofs.MachineInMemory.{given_made}
use Rattle.side_stack.specs.Stack.{used_in}
use native.Mathlib.Omega.{arith}
use borrow.Author.Rules.{rules}
use Rattle.side_parts.proofs.give.Goals as goal

pub push-requires : goal.push-requires
unfolding used_in
push-requires c = omega (arith, c.used-low.ensures)

pub returns : goal.returns
returns c = λ t. given_made t c.args.parts.now _ _ c.args.x c.used-low.ensures c.push.ensures.0 c.push.ensures.1

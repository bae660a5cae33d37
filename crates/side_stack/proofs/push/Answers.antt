-- `side_stack::push` meets its contract.
-- Assumes nothing.
use Rattle.side_stack.specs.Stack.{push_part, parts_in, height_in, stack_in}
use native.Mathlib.Omega.{arith}
use mathlib.Core.Path.{◌∙◌, ap}
use Rattle.side_stack.proofs.push.Goals as goal

pub put-requires : goal.put-requires
unfolding height_in
put-requires c = (omega arith, omega (arith, c.height-n.ensures), c.requires)

pub returns : goal.returns
unfolding stack_in
returns c = (c.put.ensures.0, c.put.ensures.1 ∙ ap (λ n. push_part c.args.part (parts_in c.args.parts.now n)) c.height-n.ensures)

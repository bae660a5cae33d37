-- `side_stack::top` meets its contract.
-- Assumes nothing.
use Rattle.side_stack.specs.Stack.{top_part, parts_in, height_in, stack_in}
use native.Mathlib.Omega.{arith}
use mathlib.Core.Path.{◌∙◌, ap}
use Rattle.side_stack.proofs.top.Goals as goal

pub part_at-requires : goal.part_at-requires
unfolding height_in
part_at-requires c = omega (arith, c.height.ensures)

pub returns : goal.returns
unfolding stack_in
returns c = (c.part_at.ensures.0 ∙ ap (λ n. top_part (parts_in c.args.parts.now n)) c.height.ensures, c.part_at.ensures.1)

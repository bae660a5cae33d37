-- `side_stack::replace_two` meets its contract.
-- Assumes nothing.
use Rattle.side_stack.proofs.PartsInMemory.{under_in}
use Rattle.side_stack.specs.Stack.{under_part, push_part, height_in, stack_in}
use native.Mathlib.Omega.{arith}
use mathlib.Core.Path.{refl, ◌∙◌, ap}
use Prim.Native.Nat.{◌-◌}
use Rattle.side_stack.proofs.replace_two.Goals as goal

pub put-requires : goal.put-requires
unfolding height_in
put-requires c = (omega arith, omega (arith, c.height-n.ensures, c.saturating_sub.ensures), c.requires)

pub returns : goal.returns
unfolding stack_in
returns c =
    (c.put.ensures.0, c.put.ensures.1 ∙ ap (push_part c.args.part) (under_in c.args.parts.now (height_in c.args.parts.now - 1) _ (omega (arith, c.height-n.ensures, c.saturating_sub.ensures)) ∙ ap under_part (under_in c.args.parts.now (height_in c.args.parts.now) _ refl)))

-- `side_stack::replace` meets its contract.
-- Assumes nothing.
use Rattle.side_stack.proofs.PartsInMemory.{under_in}
use Rattle.side_stack.specs.Stack.{push_part, height_in, stack_in}
use native.Mathlib.Omega.{arith}
use mathlib.Core.Path.{◌∙◌, ap}
use Prim.Native.Nat.{◌-◌}
use Rattle.side_stack.proofs.replace.Goals as goal

pub put-requires : goal.put-requires
unfolding height_in
put-requires c = (omega arith, omega (arith, c.height-n.ensures, c.saturating_sub.ensures), c.requires)

pub returns : goal.returns
unfolding stack_in
returns c =
    (c.put.ensures.0, c.put.ensures.1 ∙ ap (push_part c.args.part) (under_in c.args.parts.now (height_in c.args.parts.now) _ (c.saturating_sub.ensures ∙ ap (λ n. n - 1) c.height-n.ensures)))

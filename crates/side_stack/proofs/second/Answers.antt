-- `side_stack::second` meets its contract.
-- Assumes nothing.
use Rattle.side_stack.proofs.PartsInMemory.{under_in}
use Rattle.side_stack.specs.Stack.{top_part, height_in, stack_in}
use native.Mathlib.Omega.{arith}
use mathlib.Core.Path.{◌∙◌, ap}
use Prim.Native.Nat.{◌-◌}
use Rattle.side_stack.proofs.second.Goals as goal

pub part_at-requires : goal.part_at-requires
unfolding height_in
part_at-requires c = omega (arith, c.height.ensures, c.saturating_sub.ensures)

pub returns : goal.returns
unfolding stack_in
returns c =
    (c.part_at.ensures.0 ∙ ap top_part (under_in c.args.parts.now (height_in c.args.parts.now) _ (c.saturating_sub.ensures ∙ ap (λ n. n - 1) c.height.ensures)), c.part_at.ensures.1)

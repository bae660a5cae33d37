-- `side_stack::restart` meets its contract.
-- Assumes nothing.
use Rattle.side_stack.proofs.PartsInMemory.{restarted}
use Rattle.side_stack.specs.Stack.{used_in, stack_in}
use Prim.Native.Nat.{min}
use native.Mathlib.Omega.{arith}
use lib.ListN.{set}
use mathlib.Core.List.{[]}
use mathlib.Core.Path.{◌∙◌, ap, subst⁻¹, ◌≡◌}
use Rattle.side_stack.proofs.restart.Goals as goal

pub returns : goal.returns
returns c =
    let a = c.args in
    subst⁻¹ (λ ws. (used_in ws ≡ min a.n 64) × (stack_in ws ≡ [])) (c.store-2.ensures ∙ ap (λ ws. set ws 1 0) c.store.ensures) (restarted a.parts.now a.n (omega arith))

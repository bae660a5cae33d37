-- `side_stack::one_more` meets its contract.
-- Assumes nothing.
use Rattle.side_stack.proofs.PartsInMemory.{used_stored}
use Rattle.side_stack.specs.Stack.{used_in, stack_in}
use native.Mathlib.Omega.{arith}
use mathlib.Core.Path.{◌∙◌, ap}
use Prim.Native.Nat.{◌+◌, min}
use Rattle.side_stack.proofs.one_more.Goals as goal

pub overflow_add-n : goal.overflow_add-n
unfolding used_in
overflow_add-n c = omega (arith, c.used-n.ensures)

pub returns : goal.returns
returns c =
    let (u, s) = used_stored c.args.parts.now (c.used-n.result + 1) (omega arith) in
    (ap used_in c.store.ensures ∙ u ∙ ap (λ n. min (n + 1) 64) c.used-n.ensures, ap stack_in c.store.ensures ∙ s)

-- `side_atoms::test_step` meets its contract: each way puts on the stack what the definition of one step puts there.
-- Assumes nothing.
use Prim.Native.Nat.{◌-◌}
use native.Mathlib.Omega.{arith}
use mathlib.Core.Path.{sym, ◌∙◌}
use lib.Bits.{bit_and, bit_or}
use Rattle.side_atoms.specs.Atoms.{all_atoms}
use Rattle.side_atoms.proofs.TestSteps.{step_true, step_false, step_or, step_and, step_not, step_name, step_below, step_above, push_two, push_one, push_same}
use Rattle.side_atoms.proofs.test_step.Goals as goal

pub returns-in-1 : goal.returns-in-1
returns-in-1 c = (c.put.ensures.0, c.put.ensures.1 ∙ sym (step_true _ _ _ c.in-1.is))

pub returns-in-2 : goal.returns-in-2
returns-in-2 c = (c.put-in-2.ensures.0, c.put-in-2.ensures.1 ∙ sym (step_false _ _ _ c.in-2.is))

pub returns-in-3 : goal.returns-in-3
returns-in-3 c =
    let d = c in (
      c.put-in-3.ensures.0,
      c.put-in-3.ensures.1
          ∙ push_two bit_or _ _ _ _ _ _ _ d.peek-a.ensures d.saturating_sub-m.ensures d.peek-b.ensures
          c.saturating_sub.ensures
          ∙ sym (step_or _ _ _ d.in-3.is),
    )

pub returns-in-4 : goal.returns-in-4
returns-in-4 c =
    let d = c in (
      c.put-in-4.ensures.0,
      c.put-in-4.ensures.1
          ∙ push_two bit_and _ _ _ _ _ _ _ d.peek-a.ensures d.saturating_sub-m.ensures d.peek-b.ensures
          c.saturating_sub-in-4.ensures
          ∙ sym (step_and _ _ _ d.in-4.is),
    )

pub returns-in-5 : goal.returns-in-5
returns-in-5 c =
    let d = c in (
      c.put-in-5.ensures.0,
      c.put-in-5.ensures.1
          ∙ push_one (λ k. all_atoms - k) _ _ _ _ _ d.peek-a.ensures d.saturating_sub-m.ensures
          ∙ sym (step_not _ _ _ d.in-5.is),
    )

pub returns-in-16-to-21 : goal.returns-in-16-to-21
returns-in-16-to-21 c =
    let d = c in
    let (((((u, a), b), x), y), z) = d.in-16-to-21.in_default-own.rest in (
      c.put-in-16-to-21.ensures.0,
      c.put-in-16-to-21.ensures.1
          ∙ push_same _ _ _ _ c.holding_atoms.ensures
          ∙ sym (step_name _ _ _ a b x y z (omega arith) (omega arith)),
    )

pub returns-in_default : goal.returns-in_default
returns-in_default c =
    let (((((u, a), b), x), y), z) = c.in_default.in_default-own.rest in
    (omega arith, sym (step_below _ _ _ a b x y z c.in_default.if-code-lt16-own.true))

pub returns-in_default-2 : goal.returns-in_default-2
returns-in_default-2 c =
    let (((((u, a), b), x), y), z) = c.in_default.in_default-own.rest in
    (omega arith, sym (step_above _ _ _ a b x y z c.in_default.if-code-lt16-own.false c.in_default.if-code-lt22-own.false))

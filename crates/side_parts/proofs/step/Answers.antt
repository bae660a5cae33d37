-- `side_parts::step` meets its contract: each way does what the definition of one code does.
-- Assumes nothing.
use Rattle.side_parts.proofs.MachineInMemory.{relation_below, step_test, step_or, step_then, step_star, step_plus, step_optional, step_any, step_relation, step_below, step_above}
use Rattle.side_parts.specs.Machine.{optional}
use mathlib.Core.Path.{refl, ◌∙◌, ap}
use borrow.Author.Rules.{rules}
use Rattle.side_parts.proofs.step.Goals as goal

pub add_relation-requires : goal.add_relation-requires
add_relation-requires c = relation_below _ c.in-32-to-47.if-code-lt32-own.false c.in-32-to-47.if-code-lt48-own.true

pub returns-in-6 : goal.returns-in-6
returns-in-6 c = c.give.ensures _ ∙ step_test _ _ _ c.in-6.is _

pub returns-in-7 : goal.returns-in-7
returns-in-7 c = c.unite.ensures _ ∙ step_or _ _ _ c.in-7.is _

pub returns-in-8 : goal.returns-in-8
returns-in-8 c = c.put_in_order.ensures ∙ step_then _ _ _ c.in-8.is _

pub returns-in-9 : goal.returns-in-9
returns-in-9 c = c.make_optional.ensures _ ∙ ap optional c.repeat.ensures ∙ step_star _ _ _ c.in-9.is _

pub returns-in-10 : goal.returns-in-10
returns-in-10 c = c.repeat-in-10.ensures ∙ step_plus _ _ _ c.in-10.is _

pub returns-in-11 : goal.returns-in-11
returns-in-11 c = c.make_optional-in-11.ensures _ ∙ step_optional _ _ _ c.in-11.is _

pub returns-in-48 : goal.returns-in-48
returns-in-48 c = c.add_fresh.ensures ∙ step_any _ _ _ c.in-48.is _

pub returns-then-code-lt32 : goal.returns-then-code-lt32
returns-then-code-lt32 c =
    let (((((((u, k6), k7), k8), k9), k10), k11), k48) = c.in_default-1.rest in
    step_below _ _ _ k6 k7 k8 k9 k10 k11 k48 c.if-code-lt32-1.true _

pub returns-in-32-to-47 : goal.returns-in-32-to-47
returns-in-32-to-47 c =
    let (((((((u, k6), k7), k8), k9), k10), k11), k48) = c.in-32-to-47.in_default-own.rest in
    c.add_relation.ensures ∙ step_relation _ _ _ k6 k7 k8 k9 k10 k11 k48 _ refl c.in-32-to-47.if-code-lt32-own.false c.in-32-to-47.if-code-lt48-own.true _

pub returns-else-code-lt48 : goal.returns-else-code-lt48
returns-else-code-lt48 c =
    let (((((((u, k6), k7), k8), k9), k10), k11), k48) = c.in_default-1.rest in
    step_above _ _ _ k6 k7 k8 k9 k10 k11 k48 c.if-code-lt32-1.false c.if-code-lt48-1.false _

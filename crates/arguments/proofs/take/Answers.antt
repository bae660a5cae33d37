-- `arguments::take` meets its contract. By the tests in their order.
-- Assumes nothing.
use mathlib.Core.Path.{◌∙◌, ap}
use Rattle.arguments.specs.Arguments.{begun, with_count, with_argument}
use Rattle.arguments.specs.declared.Verb.{Verb}
use Rattle.arguments.specs.declared.Kind.{Kind}
use Prim.Native.Nat.{ℕ}
use Rattle.std.specs.Prelude.{Option}
use Rattle.arguments.proofs.Changes.{taken_wrong, taken_first, taken_count, taken_argument}
use Rattle.arguments.proofs.take.Goals as goal

pub returns-then-s-gt0 : goal.returns-then-s-gt0
returns-then-s-gt0 c = taken_wrong _ _ _ c.if-s-gt0.true

pub returns-then-i-eq1 : goal.returns-then-i-eq1
returns-then-i-eq1 c = c.begin.ensures ∙ ap (λ (v : Verb). begun v c.args.i) c.verb_in.ensures ∙ taken_first c.args.s _ _ c.if-s-gt0.false c.if-i-eq1.true

pub returns-then-s : goal.returns-then-s
returns-then-s c = c.with_count.ensures ∙ ap (λ (n : Option ℕ). with_count c.args.s n c.args.i) c.count_in.ensures ∙ taken_count c.args.s _ _ c.if-s-gt0.false c.if-i-eq1.false c.if-s.true

pub returns : goal.returns
returns c = c.with_argument.ensures ∙ ap (λ (k : Kind). with_argument c.args.s k c.args.i) c.kind_in.ensures ∙ taken_argument c.args.s _ _ c.if-s-gt0.false c.if-i-eq1.false c.if-s.false

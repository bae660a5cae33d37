-- `arguments::with_argument` meets its contract. By the kind of the argument.
-- Assumes nothing.
use mathlib.Core.Path.{sym, ◌∙◌, ap}
use Rattle.arguments.specs.Arguments.{with_argument}
use Rattle.arguments.proofs.Changes.{option_allowance, no_allowance, option_dot, no_dot}
use Rattle.arguments.specs.declared.Kind.{Kind}
use Rattle.arguments.proofs.with_argument.Goals as goal

pub returns-then-wanted_by : goal.returns-then-wanted_by
returns-then-wanted_by c = option_allowance c.args.s _ _ c.wanted_by.ensures _ c.in-Allowance.is c.if-wanted_by.true

pub returns-then-wanted_by-2 : goal.returns-then-wanted_by-2
returns-then-wanted_by-2 c = option_dot c.args.s _ _ c.wanted_by-in-Dot.ensures _ c.in-Dot.is c.if-wanted_by-2.true

pub returns-else-wanted_by : goal.returns-else-wanted_by
returns-else-wanted_by c = c.wrong_at.ensures ∙ no_allowance c.args.s _ _ c.wanted_by.ensures _ c.in-Allowance.is c.if-wanted_by.false

pub returns-else-wanted_by-2 : goal.returns-else-wanted_by-2
returns-else-wanted_by-2 c = c.wrong_at-in-Dot.ensures ∙ no_dot c.args.s _ _ c.wanted_by-in-Dot.ensures _ c.in-Dot.is c.if-wanted_by-2.false

pub returns-in-Other : goal.returns-in-Other
unfolding with_argument
returns-in-Other c = c.wrong_at-in-Other.ensures ∙ ap (λ (k : Kind). with_argument c.args.s k c.args.i) (sym c.in-Other.is)

pub returns-in-File : goal.returns-in-File
unfolding with_argument
returns-in-File c = c.with_file.ensures ∙ ap (λ (k : Kind). with_argument c.args.s k c.args.i) (sym c.in-File.is)

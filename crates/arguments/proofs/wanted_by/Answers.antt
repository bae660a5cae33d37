-- `arguments::wanted_by` meets its contract. In each arm the call is known.
-- Assumes nothing.
use mathlib.Core.Path.{sym, ◌∙◌, ap}
use Rattle.arguments.specs.inner.Wanted.{wanted_by}
use Rattle.arguments.proofs.wanted_by.Goals as goal

pub returns-in-Query : goal.returns-in-Query
unfolding wanted_by
returns-in-Query c = c.wanting.ensures ∙ ap wanted_by (sym c.in-Query.is)

pub returns-in-Sheet : goal.returns-in-Sheet
unfolding wanted_by
returns-in-Sheet c = c.wanting-in-Sheet.ensures ∙ ap wanted_by (sym c.in-Sheet.is)

pub returns-in-Check : goal.returns-in-Check
unfolding wanted_by
returns-in-Check c = c.wanting-in-Check.ensures ∙ ap wanted_by (sym c.in-Check.is)

pub returns-in-Draw : goal.returns-in-Draw
unfolding wanted_by
returns-in-Draw c = c.wanting-in-Draw.ensures ∙ ap wanted_by (sym c.in-Draw.is)

pub returns-in-Judge : goal.returns-in-Judge
unfolding wanted_by
returns-in-Judge c = c.wanting-in-Judge.ensures ∙ ap wanted_by (sym c.in-Judge.is)

pub returns-in-Help : goal.returns-in-Help
unfolding wanted_by
returns-in-Help c = c.wanting-in-Help.ensures ∙ ap wanted_by (sym c.in-Help.is)

pub returns-in-Unknown : goal.returns-in-Unknown
unfolding wanted_by
returns-in-Unknown c = c.wanting-in-Unknown.ensures ∙ ap wanted_by (sym c.in-Unknown.is)

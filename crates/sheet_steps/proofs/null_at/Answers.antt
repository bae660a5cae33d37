-- `sheet_steps::null_at` meets its contract: the atoms that are words stand at 4240.
-- Assumes nothing.
use mathlib.Core.Path.{◌∙◌, ap}
use Rattle.claims.specs.Query.{bit}
use Rattle.standings.specs.Steps.{null_at}
use borrow.Author.Rules.{rules}
use Rattle.sheet_steps.proofs.null_at.Goals as goal

pub returns : goal.returns
unfolding null_at
returns c = c.member.ensures ∙ ap (bit c.args.a) c.word.ensures

-- `arguments::with_file` meets its contract. By the tests in their order.
-- Assumes nothing.
use mathlib.Core.Path.{◌∙◌}
use Rattle.arguments.proofs.Changes.{file_query, file_none, file_sheet, file_second, file_third}
use Rattle.arguments.proofs.with_file.Goals as goal

pub returns-then-most-gt0 : goal.returns-then-most-gt0
returns-then-most-gt0 c = file_query c.args.s _ _ c.wanted_by-most.ensures c.if-s-eq0.true c.if-most-gt0.true

pub returns-then-s-eq0 : goal.returns-then-s-eq0
returns-then-s-eq0 c = c.wrong_at.ensures ∙ file_none c.args.s _ _ c.wanted_by-most.ensures c.if-s-eq0.true c.if-most-gt0.false

pub returns-then-most-gt1 : goal.returns-then-most-gt1
returns-then-most-gt1 c = file_sheet c.args.s _ _ c.wanted_by-most.ensures c.if-s-eq0.false c.if-s-eq0-2.true c.if-most-gt1.true

pub returns-then-s-eq0-2 : goal.returns-then-s-eq0-2
returns-then-s-eq0-2 c = c.wrong_at-then-s-eq0-2.ensures ∙ file_second c.args.s _ _ c.wanted_by-most.ensures c.if-s-eq0.false c.if-s-eq0-2.true c.if-most-gt1.false

pub returns : goal.returns
returns c = c.wrong_at-2.ensures ∙ file_third c.args.s _ _ c.wanted_by-most.ensures c.if-s-eq0.false c.if-s-eq0-2.false

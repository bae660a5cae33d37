-- `search_fields::row_of` meets its contract: row 0 of N is empty, another is the upper half of its column, and a row of M comes from the
-- columns.
-- Assumes nothing.
use mathlib.Core.Path.{sym, ◌∙◌}
use Rattle.search_contents.proofs.Rows.{row_first, row_upper, row_lower}
use borrow.Author.Rules.{rules}
use Rattle.search_fields.proofs.row_of.Goals as goal

pub returns-then-p-eq0 : goal.returns-then-p-eq0
returns-then-p-eq0 c = sym (row_first _ c.args.s.now _ c.if-upper.true c.if-p-eq0.true)

pub returns-then-upper : goal.returns-then-upper
returns-then-upper c = sym (row_upper _ c.args.s.now _ c.if-upper.true c.if-p-eq0.false)

pub returns : goal.returns
returns c = c.row_m.ensures ∙ sym (row_lower _ c.args.s.now _ c.if-upper.false)

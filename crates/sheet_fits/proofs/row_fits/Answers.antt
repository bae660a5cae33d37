-- `sheet_fits::row_fits` meets its contract: by the table.
-- Assumes nothing.
use mathlib.Core.Path.{sym, ◌∙◌, ap}
use Rattle.sheet_fits.specs.inner.Rows.{row_of}
use Rattle.sheet_fits.proofs.row_fits.Goals as goal

pub returns-then-upper : goal.returns-then-upper
returns-then-upper c =
    let if1' = c.if-upper in
    let args' = c.args in
    c.row_of_n.ensures ∙ ap (λ b. row_of b args'.r args'.p args'.m) (sym if1'.true)

pub returns : goal.returns
returns c =
    let if1' = c.if-upper in
    let args' = c.args in
    c.row_of_m.ensures ∙ ap (λ b. row_of b args'.r args'.p args'.m) (sym if1'.false)

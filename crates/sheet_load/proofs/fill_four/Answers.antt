-- `sheet_load::fill_four` meets its contract: the part that is filled has 4 words.
-- Assumes nothing.
use native.Mathlib.Omega.{arith}
use mathlib.Core.Path.{◌≡◌, ◌∙◌, ap}
use mathlib.Core.List.{◌++◌}
use lib.ListN.{length, take, drop, length-take}
use Rattle.fields.specs.Places.{cells_at}
use Rattle.sheet_load.proofs.fill_four.Goals as goal

pub returns : goal.returns
returns c =
    let a = c.args in
    let to = a.to.now in
    let e : length (take 4 to) ≡ 4 = length-take 4 to ∙ omega arith in
    ap (λ z. z ++ drop 4 to) (c.fill.ensures ∙ ap (cells_at a.sheet.now a.at) e)

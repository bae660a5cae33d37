-- `sheet_proves::alone_refutes` meets its contract: the right side is asked where the left has the word.
-- Assumes nothing.
use mathlib.Core.Path.{sym, ◌∙◌, ap}
use mathlib.Core.Bool.{not, ◌&&◌}
use Rattle.standings.specs.Steps.{null_at}
use Rattle.sheet_proves.proofs.alone_refutes.Goals as goal

pub returns-then-null_at : goal.returns-then-null_at
returns-then-null_at c =
    let a = c.args in
    ap not c.null_at-then-null_at.ensures
    ∙ sym (ap (λ b. b && not (null_at a.right.now a.a)) (sym c.null_at.ensures ∙ c.if-null_at.true))

pub returns : goal.returns
returns c =
    let a = c.args in
    sym (ap (λ b. b && not (null_at a.right.now a.a)) (sym c.null_at.ensures ∙ c.if-null_at.false))

-- `sheet_path::refutes` meets its contract: the right side is asked only where a left word may end.
-- Assumes nothing.
use mathlib.Core.Path.{sym, ◌∙◌, ap}
use mathlib.Core.Bool.{not, ◌&&◌}
use Rattle.standings.specs.Steps.{ends_set}
use borrow.Author.Rules.{rules}
use Rattle.sheet_path.proofs.refutes.Goals as goal

pub returns-then-ends_set : goal.returns-then-ends_set
returns-then-ends_set c =
    let a = c.args in
    ap not c.ends_set-then-ends_set.ensures
    ∙ sym (ap (λ b. b && not (ends_set a.right.now a.s a.a)) (sym c.ends_set.ensures ∙ c.if-ends_set.true))

pub returns : goal.returns
returns c =
    let a = c.args in
    sym (ap (λ b. b && not (ends_set a.right.now a.s a.a)) (sym c.ends_set.ensures ∙ c.if-ends_set.false))

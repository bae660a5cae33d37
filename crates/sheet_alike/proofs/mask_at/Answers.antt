-- `sheet_alike::mask_at` meets its contract: by whether there is such a relation.
-- Assumes nothing.
use native.Mathlib.Omega.{arith}
use mathlib.Core.Path.{◌∙◌, sym, ap}
use mathlib.Core.Bool.{cond}
use borrow.Author.Tests.{lt-ltb, le-ltb}
use Rattle.sheet_alike.specs.Masks.{mask_of, mask_at}
use Rattle.sheet_alike.proofs.mask_at.Goals as goal

pub returns-then-r-f : goal.returns-then-r-f
unfolding mask_at
returns-then-r-f c =
    let a = c.args in
    c.mask_of.ensures
    ∙ sym (ap (λ b. cond b (mask_of a.f a.left.now a.right.now a.r) 0) (lt-ltb a.r a.f.relations (omega arith)))

pub returns-else-r-f : goal.returns-else-r-f
unfolding mask_at
returns-else-r-f c =
    let a = c.args in
    sym (ap (λ b. cond b (mask_of a.f a.left.now a.right.now a.r) 0) (le-ltb a.r a.f.relations (omega arith)))

-- `search_alike::mask_at` meets its contract: by whether there is such a relation.
-- Assumes nothing.
use native.Mathlib.Omega.{arith}
use mathlib.Core.Path.{◌∙◌, sym, ap}
use mathlib.Core.Bool.{cond}
use borrow.Author.Tests.{lt-ltb, le-ltb}
use Rattle.search_alike.specs.Masks.{mask_of, mask_at}
use Rattle.search_alike.proofs.mask_at.Goals as goal

pub returns-then-r-k : goal.returns-then-r-k
unfolding mask_at
returns-then-r-k c =
    let a = c.args in
    c.mask_of.ensures
    ∙ sym (ap (λ b. cond b (mask_of a.k a.n a.left.now a.right.now a.r) 0) (lt-ltb a.r a.k.relations (omega arith)))

pub returns-else-r-k : goal.returns-else-r-k
unfolding mask_at
returns-else-r-k c =
    let a = c.args in
    sym (ap (λ b. cond b (mask_of a.k a.n a.left.now a.right.now a.r) 0) (le-ltb a.r a.k.relations (omega arith)))

-- `search_kinds::first_final` meets its contract, by the kind of the claim.
-- Assumes nothing.
use Rattle.search_kinds.proofs.ByKind.{final_ring, final_path}
use borrow.Author.Rules.{rules}
use Rattle.search_kinds.proofs.first_final.Goals as goal

pub returns-then-k : goal.returns-then-k
returns-then-k c =
    let a = c.args in
    final_ring a.k a.left.now a.right.now c.if-k.true _ a.s.now c.first_final.ensures

pub returns : goal.returns
returns c =
    let a = c.args in
    final_path a.k a.left.now a.right.now c.if-k.false _ a.s.now c.first_final-2.ensures

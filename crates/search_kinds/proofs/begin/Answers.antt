-- `search_kinds::begin` meets its contract, by the kind of the claim.
-- Assumes nothing.
use Rattle.search_kinds.proofs.ByKind.{begin_ring, begin_path}
use borrow.Author.Rules.{rules}
use Rattle.search_kinds.proofs.begin.Goals as goal

pub returns-then-k : goal.returns-then-k
returns-then-k c = begin_ring _ _ _ c.if-k.true _ _ c.begin.ensures.0

pub returns : goal.returns
returns c = begin_path _ _ _ c.if-k.false _ _ c.begin-2.ensures.0

-- `search_kinds::onward` meets its contract, by the kind of the claim.
-- Assumes nothing.
use Rattle.search_kinds.proofs.ByKind.{onward_ring, onward_path}
use borrow.Author.Rules.{rules}
use Rattle.search_kinds.proofs.onward.Goals as goal

pub returns-then-k : goal.returns-then-k
returns-then-k c = onward_ring _ _ _ c.if-k.true _ _ _ c.onward.ensures.0

pub returns : goal.returns
returns c = onward_path _ _ _ c.if-k.false _ _ _ c.onward-2.ensures.0

-- `search_store::pair` meets its contract.
-- Assumes nothing.
use native.Mathlib.Omega.{arith}
use Rattle.search_store.proofs.Standing.{two_words}
use borrow.Author.Rules.{rules}
use Rattle.search_store.proofs.pair.Goals as goal

pub returns : goal.returns
returns c = two_words c.args.to.now c.args.a c.args.b (omega arith)

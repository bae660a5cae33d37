-- `search_path::put` meets its contract.
-- Assumes nothing.
use Rattle.search_path.proofs.Two.{two_written}
use borrow.Author.Rules.{rules}
use Rattle.search_path.proofs.put.Goals as goal

pub returns : goal.returns
returns c = two_written c.args.to.now c.args.p c.args.s c.requires

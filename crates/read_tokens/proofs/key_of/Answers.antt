-- `read_tokens::key_of` meets its contract. Both halves.
-- Assumes nothing.
use borrow.Author.Rules.{rules}
use Rattle.read_tokens.specs.Scan.{key_of}
use Rattle.read_tokens.proofs.key_of.Goals as goal

pub returns : goal.returns
unfolding key_of
returns c = rw (c.half-2.ensures, c.half.ensures)

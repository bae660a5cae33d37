-- `read_tokens::first_byte` meets its contract. One law for each way out.
-- Assumes nothing.
use native.Mathlib.Omega.{arith}
use borrow.Author.Rules.{rules}
use Rattle.read_tokens.proofs.Found.{byte_past, byte_end, byte_here}
use Rattle.read_tokens.proofs.first_byte.Goals as goal

pub returns-then-s-at : goal.returns-then-s-at
returns-then-s-at c = byte_past _ _ c.if-s-at.true

pub returns-then-s-i : goal.returns-then-s-i
returns-then-s-i c = byte_end c.args.s.now _ _ c.skip-i.ensures.0 c.if-s-i.true

pub returns : goal.returns
returns c = byte_here c.args.s.now _ _ c.skip-i.ensures.0 (omega arith)

-- `read_tokens::byte_of` meets its contract. A byte of the run, or 0 behind it.
-- Assumes nothing.
use native.Mathlib.Omega.{arith}
use borrow.Author.Rules.{rules}
use Rattle.read_tokens.proofs.Halves.{byte_there, byte_behind}
use Rattle.read_tokens.proofs.byte_of.Goals as goal

pub returns-then-j-n : goal.returns-then-j-n
returns-then-j-n c =
    let a = c.args in
    byte_there a.s.now a.i a.n a.j (omega arith)

pub returns-else-j-n : goal.returns-else-j-n
returns-else-j-n c =
    let a = c.args in
    byte_behind a.s.now a.i a.n a.j c.if-j-n.false

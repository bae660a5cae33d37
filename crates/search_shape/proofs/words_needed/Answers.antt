-- `search_shape::words_needed` meets its contract.
-- Assumes nothing.
use mathlib.Core.Path.{refl}
use borrow.Author.Rules.{rules}
use Rattle.search_shape.proofs.words_needed.Goals as goal

pub returns-then-ring : goal.returns-then-ring
returns-then-ring c = rw c.if-ring.true refl

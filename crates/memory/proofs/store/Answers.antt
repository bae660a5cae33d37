-- `memory::store` meets its contract: past the end nothing is stored.
-- Assumes nothing.
use mathlib.Core.Path.{sym}
use lib.Seq.{set_out}
use borrow.Author.Rules.{rules}
use Rattle.memory.proofs.store.Goals as goal

pub returns-else-k-ws : goal.returns-else-k-ws
returns-else-k-ws c = sym (set_out _ _ _ c.if-k-ws.false)

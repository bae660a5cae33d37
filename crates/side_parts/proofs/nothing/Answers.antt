-- `side_parts::nothing` meets its contract.
-- Assumes nothing.
use Rattle.side_parts.proofs.MachineInMemory.{nothing_made}
use native.Mathlib.Omega.{arith}
use borrow.Author.Rules.{rules}
use Rattle.side_parts.proofs.nothing.Goals as goal

pub returns : goal.returns
returns c = nothing_made _ _ _ c.clear.ensures (omega arith) c.empty.ensures.0 c.empty.ensures.1

-- `memory::clear` meets its contract: what is filled with 0 is zeros.
-- Assumes nothing.
use Rattle.std.proofs.Common.{rules}
use Rattle.memory.specs.Memory.{zeros}
use Rattle.memory.proofs.clear.Goals as goal

pub returns : goal.returns
unfolding zeros
returns c = c.fill.ensures.after (λ y h. search rules)

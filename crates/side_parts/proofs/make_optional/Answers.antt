-- `side_parts::make_optional` meets its contract.
-- Assumes nothing.
use Rattle.side_parts.proofs.MachineInMemory.{optional_made}
use borrow.Author.Rules.{rules}
use Rattle.side_parts.proofs.make_optional.Goals as goal

pub returns : goal.returns
returns c = λ t. optional_made t c.args.parts.now _ _ c.top-a.ensures.0 c.replace.ensures.0 c.replace.ensures.1

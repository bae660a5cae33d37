-- `side_parts::unite` meets its contract.
-- Assumes nothing.
use Rattle.side_parts.proofs.MachineInMemory.{united_made}
use borrow.Author.Rules.{rules}
use Rattle.side_parts.proofs.unite.Goals as goal

pub returns : goal.returns
returns c = λ t. united_made t c.args.parts.now _ _ _ c.top-a.ensures.0 c.second-b.ensures.0 c.replace_two.ensures.0 c.replace_two.ensures.1

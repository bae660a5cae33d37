-- `side_parts::put_in_order` meets its contract.
-- Assumes nothing.
use Rattle.side_parts.proofs.MachineInMemory.{order_made}
use borrow.Author.Rules.{rules}
use Rattle.side_parts.proofs.put_in_order.Goals as goal

pub returns : goal.returns
returns c =
    order_made c.args.table.now _ c.args.parts.now _ _ _ _ c.top-a.ensures.0 c.second-b.ensures.0 c.used-hi.ensures
    c.sequence.ensures c.replace_two.ensures.0 c.replace_two.ensures.1

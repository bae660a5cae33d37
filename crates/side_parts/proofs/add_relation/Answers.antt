-- `side_parts::add_relation` meets its contract.
-- Assumes nothing.
use Rattle.side_parts.proofs.MachineInMemory.{relation_made}
use borrow.Author.Rules.{rules}
use Rattle.side_parts.proofs.add_relation.Goals as goal

pub returns : goal.returns
returns c = relation_made c.args.rels.now c.args.r _ _ _ _ _ _ c.requires c.word-f.ensures c.word-l.ensures c.word-g.ensures c.with-s.ensures c.add_fresh.ensures

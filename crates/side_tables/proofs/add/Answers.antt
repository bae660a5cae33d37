-- `side_tables::add` meets its contract.
-- Assumes nothing.
use Rattle.side_tables.proofs.Walks.{added_made}
use Rattle.side_tables.proofs.add.Goals as goal

pub returns : goal.returns
returns c =
    added_made c.args.k c.args.f c.args.l c.args.g c.args.s c.requires.0 c.args.table.now _ _ _ _ _ c.with-own.ensures c.put_at_atoms.ensures c.put_into.ensures
    c.put_at_atoms-2.ensures c.add_letters.ensures

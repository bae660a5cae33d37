-- `side_relations::live_set` meets its contract.
-- Assumes nothing.
use native.Mathlib.Omega.{arith}
use Rattle.side_relations.proofs.Narrowed.{live_atoms_left}
use Rattle.side_relations.proofs.live_set.Goals as goal

pub returns : goal.returns
returns c =
    let a = c.args in
    live_atoms_left a.tests a.removed c.atom_count-n.result c.below.result (omega arith) c.atom_count-n.ensures c.below.ensures

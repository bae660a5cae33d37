-- `graph_tables::allow_none` meets its contract, from what the functions ensure that it calls one after another.
-- Assumes nothing.
use Rattle.rows.specs.Rows.{reflexive}
use Rattle.graph_tables.proofs.Steps.{changed_with}
use Rattle.graph_tables.proofs.allow_none.Goals as goal

pub returns : goal.returns
returns c =
    let a = c.args in
    changed_with a.mem.now _ a.s a.s (λ t. reflexive t a.s.events) _ _ c.load-t.ensures c.optional.ensures c.put.ensures

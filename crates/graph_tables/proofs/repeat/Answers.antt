-- `graph_tables::repeat` meets its contract, from what the functions ensure that it calls one after another.
-- Assumes nothing.
use Rattle.rows.specs.Rows.{rounds}
use Rattle.graph_tables.proofs.Steps.{changed_with}
use Rattle.graph_tables.proofs.repeat.Goals as goal

pub returns : goal.returns
returns c =
    let a = c.args in
    changed_with a.mem.now _ a.s a.s (λ t. rounds t a.s.events a.s.events) _ _ c.load-t.ensures c.plus.ensures c.put.ensures

-- `graph_tables::repeat_or_none` meets its contract, from what the functions ensure that it calls one after another.
-- Assumes nothing.
use mathlib.Core.Path.{◌∙◌, ap}
use Rattle.rows.specs.Rows.{reflexive, rounds}
use Rattle.graph_tables.proofs.Steps.{changed_with}
use Rattle.graph_tables.proofs.repeat_or_none.Goals as goal

pub returns : goal.returns
returns c =
    let a = c.args in
    changed_with a.mem.now _ a.s a.s (λ t. reflexive (rounds t a.s.events a.s.events) a.s.events) _ _ c.load-t.ensures
    (c.optional.ensures ∙ ap (λ t. reflexive t a.s.events) c.plus-u.ensures) c.put.ensures

use mathlib.Core.Path.{sym, ◌∙◌, ap}
use mathlib.Core.Bool.{cond}
use mathlib.Core.List.{[]}
use Rattle.small_graphs.specs.Graphs.{edge_field}
use Rattle.case_lines.proofs.Putting.{puts_nothing, puts_bytes}
use Rattle.small_graphs.proofs.put_bit.Goals as goal

pub returns-then-has : goal.returns-then-has
returns-then-has c =
    let a = c.args in
    puts_bytes (ap (λ b. cond b (edge_field a.relation a.place) []) (sym c.if-has.true ∙ c.has.ensures)) c.put_edge.ensures

pub returns : goal.returns
returns c =
    let a = c.args in
    puts_bytes (ap (λ b. cond b (edge_field a.relation a.place) []) (sym c.if-has.false ∙ c.has.ensures)) (puts_nothing _ _)

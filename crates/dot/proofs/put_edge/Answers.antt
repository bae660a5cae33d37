-- `dot::put_edge` meets its contract. One piece after the other.
-- Assumes nothing.
use Rattle.print_line.proofs.Putting.{puts_append, puts_bytes}
use Rattle.dot.specs.DotText.{edge_line}
use Rattle.dot.proofs.put_edge.Goals as goal

pub returns : goal.returns
unfolding edge_line
returns c =
    let b = c in
    let a = c in
    puts_append a.put_text-a.ensures
    (puts_append a.put_decimal-b.ensures
    (puts_append a.put_text-c.ensures
    (puts_append b.put_decimal-d.ensures
    (puts_append b.put_text-e.ensures
    (puts_append (puts_bytes c.name.ensures c.put_text-f.ensures) c.put_style.ensures)))))

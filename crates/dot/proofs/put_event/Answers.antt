-- `dot::put_event` meets its contract. One piece after the other.
-- Assumes nothing.
use Rattle.print_line.proofs.Putting.{puts_append}
use Rattle.dot.specs.DotText.{event_line}
use Rattle.dot.proofs.put_event.Goals as goal

pub returns : goal.returns
unfolding event_line
returns c =
    let a = c in
    puts_append a.put_text-a.ensures
    (puts_append a.put_decimal-b.ensures
    (puts_append a.put_text-c.ensures
    (puts_append a.put_decimal-d.ensures (puts_append c.put_tests-e.ensures c.put_text.ensures))))

use Rattle.case_lines.proofs.Putting.{puts_append}
use Rattle.small_graphs.proofs.put_event.Goals as goal

pub returns : goal.returns
returns c =
    puts_append c.put-a.ensures (puts_append c.put-b.ensures (puts_append c.put-c.ensures c.put.ensures))

use Rattle.print_line.proofs.Putting.{puts_append}
use Rattle.judge_line.proofs.pair_line.Goals as goal

pub returns : goal.returns
returns c = puts_append c.put_line-a.ensures (puts_append c.put_text-b.ensures (puts_append c.put_decimal-c.ensures (puts_append c.put_byte-d.ensures (puts_append c.put_decimal-e.ensures c.put_byte.ensures))))

use Rattle.print_line.proofs.Putting.{puts_append}
use Rattle.judge_line.proofs.put_line.Goals as goal

pub returns : goal.returns
returns c = puts_append c.put_text-a.ensures c.put_decimal.ensures

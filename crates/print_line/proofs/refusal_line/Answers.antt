-- `print_line::refusal_line` meets its contract. One piece after the other.
-- Assumes nothing.
use Rattle.print_line.proofs.Putting.{puts_append}
use Rattle.print_line.proofs.Decimals.{puts_as}
use Rattle.print_line.proofs.refusal_line.Goals as goal

pub returns : goal.returns
returns c =
    puts_append c.put_text-a.ensures
    (puts_append (puts_as c.number.ensures c.put_spaced-b.ensures)
    (puts_append c.put_text-c.ensures (puts_append c.put_spaced-d.ensures c.put_byte.ensures)))

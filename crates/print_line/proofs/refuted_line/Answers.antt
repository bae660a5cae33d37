-- `print_line::refuted_line` meets its contract. One piece after the other.
-- Assumes nothing.
use Rattle.print_line.proofs.Putting.{puts_append}
use Rattle.print_line.proofs.refuted_line.Goals as goal

pub returns : goal.returns
returns c =
    puts_append c.put_text-a.ensures (puts_append c.put_numbers-b.ensures c.put_byte.ensures)

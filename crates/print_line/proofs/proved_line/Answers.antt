-- `print_line::proved_line` meets its contract. One piece after the other.
-- Assumes nothing.
use Rattle.print_line.proofs.Putting.{puts_append}
use Rattle.print_line.proofs.proved_line.Goals as goal

pub returns : goal.returns
returns c =
    puts_append c.put_text-a.ensures (puts_append c.put_spaced-b.ensures c.put_byte.ensures)

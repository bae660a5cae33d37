-- `print_line::put_decimal` meets its contract. The digits that stand at the end of the array.
-- Assumes nothing.
use Rattle.print_line.proofs.Putting.{puts_bytes}
use Rattle.print_line.proofs.put_decimal.Goals as goal

pub returns : goal.returns
returns c = puts_bytes c.digits-i.ensures.1 c.put_text.ensures

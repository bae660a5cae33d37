-- `print_line::put_spaced` meets its contract. A space, and then the digits.
-- Assumes nothing.
use mathlib.Core.Path.{refl}
use Rattle.print_line.proofs.Decimals.{puts_number}
use Rattle.print_line.proofs.put_spaced.Goals as goal

pub returns : goal.returns
returns c = puts_number _ c.put_byte-to.ensures c.put_decimal.ensures refl

-- `draw_bytes::byte` meets its contract.
-- Assumes nothing.
use mathlib.Core.Path.{sym}
use lib.ListN.{get_or-eq_default}
use Rattle.draw_bytes.proofs.byte.Goals as goal

pub returns-else-i-bs : goal.returns-else-i-bs
returns-else-i-bs c = sym (get_or-eq_default c.args.bs.now 0 c.if-i-bs.false)

-- `side_limits::right_limit` meets its contract: each answer by the test that led to it.
-- Assumes nothing.
use mathlib.Core.Path.{refl}
use Rattle.side_limits.proofs.right_limit.Goals as goal

pub returns-then-ring : goal.returns-then-ring
returns-then-ring c = rw c.if-ring.true refl

pub returns-else-ring : goal.returns-else-ring
returns-else-ring c = rw c.if-ring.false refl

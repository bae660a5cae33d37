-- `side_claim::start_of` meets its contract. The invariant: the first start from the place on is the first of all. The measure is what is left of
-- the codes.
-- Assumes nothing.
use Rattle.side_claim.proofs.SidesInMemory.{seeks_all, seeks_inside, seeks_other, seeks_found, seeks_none}
use native.Mathlib.Omega.{arith}
use Rattle.side_claim.proofs.start_of.Goals as goal

pub loop-i-init : goal.loop-i-init
loop-i-init c = seeks_all _ _

pub loop-i-preserved-then-code-lt-LINE : goal.loop-i-preserved-then-code-lt-LINE
loop-i-preserved-then-code-lt-LINE c = seeks_inside _ _ _ _ c.loop-i.invariant (omega arith) c.if-code-lt-LINE.true

pub returns-then-code-k : goal.returns-then-code-k
returns-then-code-k c = seeks_found _ _ _ _ c.loop-i.invariant (omega arith) c.if-code-lt-LINE.false c.if-code-k.true

pub loop-i-preserved : goal.loop-i-preserved
loop-i-preserved c = seeks_other _ _ _ _ c.loop-i.invariant (omega arith) c.if-code-lt-LINE.false c.if-code-k.false

pub returns : goal.returns
returns c = seeks_none _ _ _ _ c.loop-i.invariant (omega arith)

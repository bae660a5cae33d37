-- `read_exprs::postfixes` meets its contract. The invariant: the postfixes passed wrap whichever tree stands before them, and their
-- codes are stored. The measure is what is left of the line.
-- Assumes nothing.
use Prim.Native.Nat.{◌-◌}
use lib.ListN.{length}
use Rattle.read_exprs.proofs.PostfixRuns.{Wrapping}
use Rattle.read_exprs.proofs.postfixes.Given as goal

abbrev pub invariant-loop-sign : goal.invariant-loop-sign
invariant-loop-sign l = Wrapping l.s l.p l.initial.out l.at l.used l.out

abbrev pub decreases-loop-sign : goal.decreases-loop-sign
decreases-loop-sign l = length l.s - l.at

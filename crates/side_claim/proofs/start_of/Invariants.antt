-- `side_claim::start_of` meets its contract. The invariant: the first start from the place on is the first of all. The measure is what is left of
-- the codes.
-- Assumes nothing.
use Rattle.side_claim.proofs.SidesInMemory.{Seeks}
use Rattle.side_claim.proofs.start_of.Given as goal

abbrev pub invariant-loop-i : goal.invariant-loop-i
invariant-loop-i l = Seeks l.k l.codes l.i l.start

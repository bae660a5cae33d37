-- `graph_read::add_fields` meets its contract. The invariant: what the fields before place `at` make is held, and what is left to read is the
-- whole reading. The measure is how many bytes are left.
-- Assumes nothing.
use Prim.Native.Nat.{◌-◌}
use lib.ListN.{length}
use Rattle.graph_read.proofs.SoFar.{SoFar}
use Rattle.graph_read.proofs.add_fields.Given as goal

abbrev pub invariant-loop-at : goal.invariant-loop-at
invariant-loop-at l =
    SoFar (record { atoms = l.atoms; relations = l.relations }) l.bytes l.at l.n l.edged l.k l.listed

abbrev pub decreases-loop-at : goal.decreases-loop-at
decreases-loop-at l = length l.bytes - l.at

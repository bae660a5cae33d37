-- `dot::events` meets its contract. The events counted and those that are left are all.
-- Assumes nothing.
use Prim.Native.Nat.{◌+◌, ◌-◌, ◌*◌, ◌≤◌}
use mathlib.Core.Path.{◌≡◌}
use lib.ListN.{length, drop}
use Rattle.dot.specs.DotText.{atoms_in}
use Rattle.dot.proofs.events.Given as goal

abbrev pub invariant-loop-at : goal.invariant-loop-at
invariant-loop-at l = (l.at ≤ length l.graph) × (4 * l.n ≡ l.at) × (l.n + length (atoms_in (drop l.at l.graph)) ≡ length (atoms_in l.graph))

abbrev pub decreases-loop-at : goal.decreases-loop-at
decreases-loop-at l = length l.graph - l.at

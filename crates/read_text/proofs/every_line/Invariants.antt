-- `read_text::every_line` meets its contract. The invariant, `Going`: what is left to read, from the state now, is the whole reading from the start.
-- Assumes nothing.
use Prim.Native.Nat.{◌+◌, ◌-◌}
use lib.ListN.{length}
use Rattle.read_text.proofs.Lines.{Going}
use Rattle.read_text.proofs.every_line.Given as goal

abbrev pub invariant-loop-at : goal.invariant-loop-at
invariant-loop-at l = Going l.text l.initial.out l.st l.names l.out l.number l.at

abbrev pub decreases-loop-at : goal.decreases-loop-at
decreases-loop-at l = length l.text + 1 - l.at

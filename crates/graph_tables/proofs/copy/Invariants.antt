-- `graph_tables::copy` meets its contract. The invariant: what is left of the rows, filled in the memory as it is, is all of them filled in the
-- memory at the start.
-- Assumes nothing.
use Prim.Native.Nat.{◌+◌}
use mathlib.Core.Path.{◌≡◌}
use lib.ListN.{length, get_or}
use Rattle.memory.specs.Memory.{words, changed}
use Rattle.graph_tables.proofs.copy.Given as goal

abbrev pub invariant-loop-x : goal.invariant-loop-x
invariant-loop-x l = (length l.out ≡ length l.initial.out) × (changed (λ k w. get_or l.listed (l.base + k) 0) l.out l.x (length l.out) ≡ words (length l.initial.out) (λ k. get_or l.listed (l.base + k) 0))

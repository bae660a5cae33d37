-- `rows::join_where` meets its contract. The invariant: what is left of the rows, joined in the memory as it is, is all of them joined in
-- the memory at the start.
-- Assumes nothing.
use Prim.Native.Nat.{◌≤◌}
use mathlib.Core.Path.{◌≡◌}
use lib.ListN.{length}
use Rattle.memory.specs.Memory.{changed}
use Rattle.rows.specs.Rows.{joined_where}
use Rattle.rows.proofs.Rounds.{merge}
use Rattle.rows.proofs.join_where.Given as goal

abbrev pub invariant-loop-x : goal.invariant-loop-x
invariant-loop-x l = (length l.t ≡ length l.initial.t) × (l.x ≤ l.m) × (changed (merge l.c l.k) l.t l.x l.n ≡ joined_where l.initial.t l.c l.k l.n)

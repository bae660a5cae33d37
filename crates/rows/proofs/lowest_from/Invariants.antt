-- `rows::lowest_from` meets its contract. The invariant: the lowest pair from the events from x on is the lowest of all, since none before has
-- one.
-- Assumes nothing.
use Prim.Native.Nat.{◌≤◌, min}
use mathlib.Core.Path.{◌≡◌}
use Rattle.kat.specs.Lists.{upto}
use Rattle.rows.specs.Rows.{lowest_from, lowest_pair}
use Rattle.rows.proofs.lowest_from.Given as goal

abbrev pub invariant-loop-x : goal.invariant-loop-x
invariant-loop-x l = (l.x ≤ l.m) × (l.m ≡ min l.n 64) × (lowest_from l.t l.u (upto l.x l.n) ≡ lowest_pair l.t l.u l.n)

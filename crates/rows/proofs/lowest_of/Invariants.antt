-- `rows::lowest_of` meets its contract. The invariant: the lowest event of those from x on is the lowest of all, since none before is in a loop.
-- Assumes nothing.
use Prim.Native.Nat.{◌≤◌, min}
use mathlib.Core.Path.{◌≡◌}
use Rattle.kat.specs.Lists.{upto}
use Rattle.rows.specs.Rows.{lowest_of, lowest_loop}
use Rattle.rows.proofs.lowest_of.Given as goal

abbrev pub invariant-loop-x : goal.invariant-loop-x
invariant-loop-x l = (l.x ≤ l.m) × (l.m ≡ min l.n 64) × (lowest_of l.t (upto l.x l.n) ≡ lowest_loop l.t l.n)

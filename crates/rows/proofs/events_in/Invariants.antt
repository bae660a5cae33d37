-- `rows::events_in` meets its contract. The invariant: the set so far is that of the events passed.
-- Assumes nothing.
use Prim.Native.Nat.{◌≤◌}
use mathlib.Core.Path.{◌≡◌}
use Rattle.rows.specs.Rows.{events_in}
use Rattle.rows.proofs.events_in.Given as goal

abbrev pub invariant-loop-x : goal.invariant-loop-x
invariant-loop-x l = (l.x ≤ l.m) × (l.all ≡ events_in l.atoms l.x l.s)

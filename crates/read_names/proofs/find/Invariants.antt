-- `read_names::find` meets its contract. The invariant: what is found in the entries that are left is what is found in all.
-- Assumes nothing.
use Prim.Native.Nat.{◌≤◌}
use native.Mathlib.Omega.{arith}
use mathlib.Core.Path.{◌≡◌, refl, sym, ◌∙◌}
use lib.ListN.{length, drop}
use borrow.Author.Rules.{rules}
use Rattle.read_names.specs.Keys.{find_in}
use Rattle.read_names.proofs.Tables.{find_none, find_short, find_here, find_next}
use Rattle.read_names.proofs.find.Given as goal

abbrev pub invariant-loop-left : goal.invariant-loop-left
invariant-loop-left l = (l.at ≤ length l.names) × (find_in l.left (drop l.at l.names) l.k ≡ find_in l.n l.names l.k)

abbrev pub decreases-loop-left : goal.decreases-loop-left
decreases-loop-left l = l.left

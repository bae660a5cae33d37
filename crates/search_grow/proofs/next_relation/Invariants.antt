-- `search_grow::next_relation` meets its contract: the relations that are passed over are not tried with the atom.
-- Assumes nothing.
use mathlib.Core.Path.{◌≡◌, refl, sym, ◌∙◌, ap}
use Rattle.search_grow.proofs.Letters.{relation_skip}
use Rattle.search_grow.specs.Masks.{relations_left, tried}
use borrow.Author.Rules.{rules}
use native.Mathlib.Omega.{arith}
use Prim.Native.Nat.{◌-◌, ◌≤◌}
use Rattle.search_grow.proofs.next_relation.Given as goal

abbrev pub invariant-loop-i : goal.invariant-loop-i
invariant-loop-i l =
    (l.r ≤ l.i) × (l.i ≤ l.relations) × (relations_left l.masks l.relations l.a l.r ≡ relations_left l.masks l.relations l.a l.i)

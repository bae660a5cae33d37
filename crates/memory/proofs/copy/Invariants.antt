-- `memory::copy` meets its contract. The invariant: with the rest of the places copied, all of them are. The measure is what is left of the places.
-- Assumes nothing.
use Rattle.memory.proofs.Words.{changed_end, changed_more}
use Rattle.memory.specs.Memory.{changed, copied}
use lib.ListN.{length, get_or, length-set}
use mathlib.Core.Path.{◌≡◌, refl, sym, ◌∙◌}
use native.Mathlib.Omega.{arith}
use Prim.Native.Nat.{◌-◌, min}
use borrow.Author.Rules.{rules}
use Rattle.memory.proofs.copy.Given as goal

abbrev pub invariant-loop-i : goal.invariant-loop-i
invariant-loop-i l =
    (length l.to ≡ length l.initial.to) × (l.end ≡ min (length l.from) (length l.initial.to)) × (changed (λ k w. get_or l.from k 0) l.to l.i (length l.from) ≡ copied l.from l.initial.to)

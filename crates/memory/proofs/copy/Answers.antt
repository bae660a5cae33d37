-- `memory::copy` meets its contract. The invariant: with the rest of the places copied, all of them are. The measure is what is left of the places.
-- Assumes nothing.
use Rattle.memory.proofs.Words.{changed_end, changed_more}
use Rattle.memory.specs.Memory.{changed, copied}
use lib.ListN.{length, get_or, length-set}
use mathlib.Core.Path.{◌≡◌, refl, sym, ◌∙◌}
use native.Mathlib.Omega.{arith}
use Prim.Native.Nat.{◌-◌, min}
use borrow.Author.Rules.{rules}
use Rattle.memory.proofs.copy.Goals as goal

pub loop-i-init : goal.loop-i-init
unfolding copied
loop-i-init c = (refl, c.least-end.ensures, refl)

pub bounds-from-i : goal.bounds-from-i
bounds-from-i c = omega (arith, c.loop-i.invariant.1)

pub bounds-to-i : goal.bounds-to-i
bounds-to-i c = omega (arith, c.loop-i.invariant.0, c.loop-i.invariant.1)

pub loop-i-preserved : goal.loop-i-preserved
loop-i-preserved c = (
  length-set c.loop-i.to c.loop-i.i (get_or c.args.from.now c.loop-i.i 0) ∙ c.loop-i.invariant.0,
  c.loop-i.invariant.1,
  changed_more (λ k w. get_or c.args.from.now k 0) c.loop-i.to (length c.args.from.now) c.loop-i.i _ (omega (arith, c.loop-i.invariant.1)) (omega (arith, c.loop-i.invariant.0, c.loop-i.invariant.1)) refl
      ∙ c.loop-i.invariant.2,
)

pub shape_of-to : goal.shape_of-to
shape_of-to c = c.loop-i.invariant.0

pub returns : goal.returns
returns c = sym (changed_end (λ k w. get_or c.args.from.now k 0) c.loop-i.to (length c.args.from.now) c.loop-i.i (omega (arith, c.loop-i.invariant.0, c.loop-i.invariant.1))) ∙ c.loop-i.invariant.2

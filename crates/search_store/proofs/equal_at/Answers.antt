-- `search_store::equal_at` meets its contract. The invariant: the words so far are equal.
-- Assumes nothing.
use Prim.Native.Nat.{ℕ, ◌+◌, ◌-◌, ◌≤◌, ◌<◌}
use native.Mathlib.Omega.{arith}
use mathlib.Core.Path.{◌≡◌, refl}
use lib.ListN.{get_or}
use Rattle.kat.proofs.Bools.{true_not_false}
use borrow.Author.Count.{below_more}
use borrow.Author.Rules.{rules}
use Rattle.search_store.proofs.equal_at.Goals as goal

pub loop-j-init : goal.loop-j-init
loop-j-init c = (omega arith, λ k h. absurd (omega arith))

pub returns-then-words-base : goal.returns-then-words-base
returns-then-words-base c =
    let l = c.loop-j in
    record { alike = λ z. absurd (true_not_false z refl); unlike = λ _ f. c.if-words-base.true (f l.j (omega arith)) }

pub loop-j-preserved : goal.loop-j-preserved
loop-j-preserved c = (omega arith, below_more _ _ c.loop-j.invariant.1 c.if-words-base.false)

pub returns : goal.returns
returns c =
    record { alike = λ _ j h. c.loop-j.invariant.1 j (omega arith); unlike = λ z. absurd (true_not_false refl z) }

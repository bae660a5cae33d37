-- `search_alike::masks` meets its contract. The invariant: with the rest filled, all of it is.
-- Assumes nothing.
use Prim.Native.Nat.{ℕ}
use native.Mathlib.Omega.{arith}
use mathlib.Core.Path.{◌≡◌, sym, ◌∙◌, subst}
use lib.ListN.{length-set}
use Rattle.memory.specs.Memory.{words, changed}
use Rattle.memory.proofs.Words.{fill_begin, fill_more, fill_end}
use Rattle.search_alike.specs.Masks.{mask_at, masks_of}
use Rattle.search_alike.proofs.masks.Goals as goal

pub loop-r-init : goal.loop-r-init
loop-r-init c =
    let a = c.args in
    let g : ℕ → ℕ = mask_at a.k a.n a.left.now a.right.now in
    (c.told-out, subst (λ n. changed (λ i w. g i) a.out.now 0 n ≡ words n g) c.told-out (fill_begin g a.out.now))

pub loop-r-preserved : goal.loop-r-preserved
loop-r-preserved c =
    let l = c.loop-r in
    let a = c.args in (
      simp length-set l.invariant.0,
      fill_more (mask_at a.k a.n a.left.now a.right.now) l.out 16 l.r _ (omega arith) (omega arith) c.mask_at.ensures ∙ l.invariant.1,
    )

pub returns : goal.returns
unfolding masks_of
returns c =
    let l = c.loop-r in
    let a = c.args in
    sym (fill_end (mask_at a.k a.n a.left.now a.right.now) l.out 16 l.r (omega arith)) ∙ l.invariant.1

-- `search_store::copy` meets its contract: the words of one memory in the place of as many of the other.
-- Assumes nothing.
use Prim.Native.Nat.{◌+◌, ◌-◌}
use native.Mathlib.Omega.{arith}
use mathlib.Core.Path.{◌≡◌, ◌∙◌, ap, ap₂}
use mathlib.Core.List.{◌++◌}
use lib.ListN.{take, drop}
use borrow.Rule.Slice.PartMut.{Post-is}
use Rattle.search_store.proofs.Appended.{copied_whole}
use Rattle.search_store.proofs.copy.Goals as goal

pub returns : goal.returns
returns c =
    let a = c.args in
    let e : a.base + 34 - a.base ≡ 34 = omega arith in
    ap₂ (λ ys zs. take a.at a.to.now ++ (ys ++ zs)) (c.copy_from_slice.ensures.after ∙ ap (λ k. take k (drop a.base a.from.now)) e)
    (Post-is a.at (a.at + 34) a.to.now (omega arith))
    ∙ copied_whole a.at a.base a.from.now a.to.now c.requires.0 c.requires.1

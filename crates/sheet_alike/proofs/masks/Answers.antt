-- `sheet_alike::masks` meets its contract: the memory is as long as its type says.
-- Assumes nothing.
use native.Mathlib.Omega.{arith}
use mathlib.Core.Path.{◌≡◌, ◌∙◌, ap}
use lib.ListN.{length}
use Rattle.memory.specs.Memory.{words}
use Rattle.sheet_alike.specs.Masks.{mask_at, masks_of}
use Rattle.sheet_alike.proofs.masks.Goals as goal

pub returns : goal.returns
unfolding masks_of
returns c =
    let a = c.args in
    let e : length a.out.now ≡ 16 = omega arith in
    c.fill.ensures ∙ ap (λ m. words m (mask_at a.f a.left.now a.right.now)) e

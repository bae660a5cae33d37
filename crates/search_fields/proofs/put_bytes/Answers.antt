-- `search_fields::put_bytes` meets its contract: the bytes stand in the place of as many of the slice.
-- Assumes nothing.
use Prim.Native.Nat.{◌+◌, ◌-◌}
use native.Mathlib.Omega.{arith}
use mathlib.Core.Path.{◌≡◌, refl, ap, ap₂}
use lib.ListN.{length}
use borrow.Rule.Slice.PartMut.{put_mid}
use Rattle.search_contents.specs.Written.{over, written}
use Rattle.search_fields.proofs.put_bytes.Goals as goal

pub returns : goal.returns
unfolding over written
returns c =
    let a = c.args in
    let e : a.at + length a.bytes.now - a.at ≡ length a.bytes.now = omega arith in
    (refl, ap₂ (λ k ys. put_mid a.at k a.out.now ys) e c.copy_from_slice.ensures.after)

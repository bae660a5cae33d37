-- `search_fields::put_big_endian` meets its contract: the bytes are put from the last one to the first. The invariant: the bytes that are left,
-- put over the slice as it is, are all bytes put over the slice as it was. The measure is how many are left.
-- Assumes nothing.
use Prim.Native.Nat.{◌≤◌}
use native.Mathlib.Omega.{arith}
use mathlib.Core.Path.{◌≡◌, refl, ◌∙◌}
use lib.ListN.{length, length-set}
use Rattle.claims.specs.Fields.{big_endian}
use Rattle.search_contents.specs.Written.{over}
use Rattle.search_contents.proofs.Written.{number_more, number_end}
use borrow.Author.Rules.{rules}
use Rattle.search_fields.proofs.put_big_endian.Goals as goal

pub loop-k-init : goal.loop-k-init
loop-k-init c = (refl, omega arith, refl)

pub loop-k-preserved : goal.loop-k-preserved
loop-k-preserved c =
    let a = c.args in
    let l = c.loop-k in (
      simp length-set l.invariant.0,
      omega arith,
      number_more a.at l.k l.left l.out (omega arith) (omega arith) ∙ l.invariant.2,
    )

pub returns : goal.returns
returns c =
    let a = c.args in
    let l = c.loop-k in
    (refl, number_end a.at l.k l.left l.out (omega arith) ∙ l.invariant.2)

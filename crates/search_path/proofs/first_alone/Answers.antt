-- `search_path::first_alone` meets its contract: the trailing zeros of the set are its lowest member.
-- Assumes nothing.
use Prim.Native.Nat.{◌-◌, ◌^◌}
use native.Mathlib.Omega.{arith}
use lib.Bits.{bit_and, and_le_l}
use lib.Count.{trailing_le}
use Rattle.search_path.proofs.Firsts.{alone_first}
use borrow.Author.Rules.{rules}
use Rattle.search_path.proofs.first_alone.Goals as goal

pub overflow_cast-result : goal.overflow_cast-result
overflow_cast-result c =
    let a = c.args in
    omega (arith, trailing_le 64 (bit_and a.live (bit_and c.word-yes.result (2 ^ 64 - 1 - c.word-no.result))))

pub returns : goal.returns
returns c =
    let a = c.args in
    let on = c.word-yes in
    let off = c.word-no in
    alone_first a.left.now a.right.now a.live on.result off.result on.ensures off.ensures (search rules)
    (omega (arith, and_le_l a.live (bit_and on.result (2 ^ 64 - 1 - off.result))))

-- `bits::below` meets its contract: below 64 it is one less than the power of 2, and from 64 on the whole word.
-- Assumes nothing.
use Prim.Native.Nat.{◌-◌}
use native.Mathlib.Nat.{le_of_lt}
use native.Mathlib.Omega.{arith}
use mathlib.Core.Path.{sym, ◌∙◌, ap}
use borrow.Author.Rules.{rules}
use lib.Pow.{pow_pos}
use Rattle.bits.proofs.Rows.{shifted_one, all_small, all_large}
use Rattle.bits.proofs.below.Goals as goal

pub overflow_sub-result : goal.overflow_sub-result
overflow_sub-result c = omega (arith, shifted_one 64 c.args.n c.if-n-lt64.true, pow_pos c.args.n)

pub returns-then-n-lt64 : goal.returns-then-n-lt64
returns-then-n-lt64 c =
    let n = c.args.n in
    ap (λ k. k - 1) (shifted_one 64 n c.if-n-lt64.true) ∙ sym (all_small 64 n (le_of_lt c.if-n-lt64.true))

pub returns-else-n-lt64 : goal.returns-else-n-lt64
returns-else-n-lt64 c = sym (all_large 64 c.args.n c.if-n-lt64.false)

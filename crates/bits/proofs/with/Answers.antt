-- `bits::with` meets its contract: below 64 the shifted 1 is the power of 2, and from 64 on nothing changes.
-- Assumes nothing.
use mathlib.Core.Path.{sym, ◌∙◌, ap}
use borrow.Author.Rules.{rules}
use lib.Bits.{bit_or}
use Rattle.bits.proofs.Rows.{shifted_one, including_in, including_out}
use Rattle.bits.proofs.with.Goals as goal

pub returns-then-k-lt64 : goal.returns-then-k-lt64
returns-then-k-lt64 c =
    let a = c.args in
    ap (bit_or a.s) (shifted_one 64 a.k c.if-k-lt64.true) ∙ sym (including_in 64 a.s a.k c.if-k-lt64.true)

pub returns-else-k-lt64 : goal.returns-else-k-lt64
returns-else-k-lt64 c = sym (including_out 64 c.args.s c.args.k c.if-k-lt64.false)

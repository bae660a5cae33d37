-- `sheet_cover::pair_turns` meets its contract: a pair of q with itself, or one whose p the row of q has.
-- Assumes nothing.
use native.Mathlib.Omega.{arith}
use mathlib.Core.Path.{sym, ◌∙◌, ap}
use lib.Bits.{bit_and}
use Rattle.bits.specs.Sets.{meets}
use Rattle.sheet_cover.proofs.Sought.{pair_found, pair_sought}
use Rattle.sheet_cover.proofs.pair_turns.Goals as goal

pub returns-then-member : goal.returns-then-member
returns-then-member c =
    let a = c.args in
    pair_found a.w a.v a.q a.m _ (omega arith) (omega arith) (ap (bit_and a.v) c.below.ensures)
    (sym c.member.ensures ∙ c.if-member.true)

pub returns : goal.returns
unfolding meets
returns c =
    let a = c.args in
    pair_sought a.w a.v a.q a.m _ (omega arith) (omega arith) (ap (bit_and a.v) c.below.ensures) (omega arith)
    (sym c.member.ensures ∙ c.if-member.false)

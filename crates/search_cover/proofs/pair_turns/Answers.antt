-- `search_cover::pair_turns` meets its contract: a pair of q with itself, or a walk of the p of the others.
-- Assumes nothing.
use Prim.Native.Nat.{◌/◌, ◌^◌}
use native.Mathlib.Omega.{arith}
use mathlib.Core.Path.{sym, ◌∙◌, ap}
use lib.Bits.{bit_and}
use Rattle.search_cover.proofs.Sought.{pair_found, pair_sought}
use Rattle.search_cover.proofs.pair_turns.Goals as goal

pub returns-then-member : goal.returns-then-member
returns-then-member c =
    let a = c.args in
    pair_found a.t.now a.w a.q a.m _ (omega arith) (omega arith) (ap (bit_and (a.w / 2 ^ 32)) c.below.ensures)
    (sym c.member.ensures ∙ c.if-member.true)

pub returns : goal.returns
returns c =
    let a = c.args in
    c.any_member.ensures
    ∙ pair_sought a.t.now a.w a.q a.m _ (omega arith) (omega arith) (ap (bit_and (a.w / 2 ^ 32)) c.below.ensures)
    (sym c.member.ensures ∙ c.if-member.false)

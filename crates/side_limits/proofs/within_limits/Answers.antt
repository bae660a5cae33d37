-- `side_limits::within_limits` meets its contract: a size past its limit is against the bounds that the test gives, and where all but the last
-- are passed, the last is left.
-- Assumes nothing.
use native.Mathlib.Omega.{arith}
use mathlib.Core.Path.{sym}
use Rattle.side_limits.proofs.Test.{all_but_own, over}
use Rattle.side_limits.proofs.within_limits.Goals as goal

pub returns-then-s-gt64 : goal.returns-then-s-gt64
returns-then-s-gt64 c = sym (over c.args.s (λ b. omega (arith, b.left_occurrences)))

pub returns-then-s-gt512 : goal.returns-then-s-gt512
returns-then-s-gt512 c = sym (over c.args.s (λ b. omega (arith, b.left_leaves)))

pub returns-then-right_limit-s : goal.returns-then-right_limit-s
returns-then-right_limit-s c =
    let b2 = c in
    sym
    (over b2.args.s
    (λ b. omega (arith, b.right_occurrences, b2.right_limit.ensures)))

pub returns-then-s-gt512-2 : goal.returns-then-s-gt512-2
returns-then-s-gt512-2 c =
    let b5 = c in
    sym (over b5.args.s (λ b. omega (arith, b.right_leaves)))

pub returns : goal.returns
returns c =
    let b3 = c in
    let b6 = c in
    sym
    (all_but_own b6.args.s _ b6.if-s-gt64.false b6.if-s-gt512.false
    b3.right_limit.ensures b3.if-right_limit-s.false c.if-s-gt512-2.false)

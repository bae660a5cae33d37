-- `print_line::digits` meets its contract. The digits that stand and those still to come are the whole number's; the number left falls.
-- Assumes nothing.
use lib.ListN.{drop_of_length-le, length-drop}
use lib.Seq.{take_all}
use mathlib.Core.Path.{ap}
use Rattle.print_line.proofs.Decimals.{digit_more, digit_last, two_digits, fewer_digits}
use lib.ListN.{set, length-set}
use Prim.Native.Nat.{suc, ◌+◌, ◌-◌}
use mathlib.Core.Path.{sym, ◌∙◌}
use native.Mathlib.Omega.{arith}
use Prim.Native.Nat.{◌≤◌}
use mathlib.Core.Path.{◌≡◌}
use lib.ListN.{drop}
use Rattle.claims.specs.Printed.{digits_before, decimal}
use borrow.Author.Rules.{rules}
use Rattle.print_line.proofs.digits.Goals as goal

pub loop-left-init : goal.loop-left-init
unfolding decimal
loop-left-init c = (
  (suc c.args.n, omega arith, ap (digits_before (suc c.args.n) c.args.n) (drop_of_length-le c.args.to.now {i = 20} (omega (arith, c.requires)))),
  omega arith,
  omega arith,
  search rules,
  c.requires,
)

pub loop-left-preserved : goal.loop-left-preserved
loop-left-preserved c =
    let at = c.loop-left in
    let (f, h, e) = at.invariant.0 in
    let two : 2 ≤ at.i = two_digits at.left at.i c.loop-left-test.true at.invariant.3 in
    let up : at.i ≡ at.i - 1 + 1 = omega arith in (
      (
        f - 1,
        omega arith,
        sym (digit_more f at.left (at.i - 1) at.i at.to h c.loop-left-test.true up (omega arith)) ∙ e,
      ),
      omega arith,
      omega arith,
      fewer_digits at.left (at.i - 1) at.i up at.invariant.3,
      simp length-set at.invariant.4,
    )

pub shape_of-to : goal.shape_of-to
shape_of-to c = simp length-set (c.loop-left.invariant.4 ∙ sym c.requires)

pub returns : goal.returns
returns c =
    let at = c.loop-left in
    let (f, h, e) = at.invariant.0 in
    let up : at.i ≡ at.i - 1 + 1 = omega arith in
    let whole = digit_last f at.left (at.i - 1) at.i at.to h (omega arith) up (omega arith) in
    let all = take_all (20 - (at.i - 1)) (drop (at.i - 1) (set at.to (at.i - 1) (48 + at.left)))
    (simp (length-drop, length-set) (omega arith)) in
    (omega arith, all ∙ sym whole ∙ e)

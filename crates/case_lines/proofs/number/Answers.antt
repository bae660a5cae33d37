-- `case_lines::number` meets its contract. It goes over at most 20 digits: the number so far and the digits that are left are the whole.
-- Assumes nothing.
use native.Mathlib.Omega.{arith}
use mathlib.Core.Path.{◌≡◌, refl, sym, ◌∙◌}
use Rattle.case_lines.proofs.FieldLaws.{number_start, number_more, number_under, number_over, number_end, front_length}
use Rattle.case_lines.proofs.number.Goals as goal

pub loop-i-init : goal.loop-i-init
loop-i-init c = (omega arith, number_start _ _)

pub returns-then-n-i : goal.returns-then-n-i
returns-then-n-i c =
    let a = c.args in
    let at = c.loop-i in
    let e = number_end a.n a.text.now at.i at.value (omega (arith, front_length a.n a.text.now)) at.invariant.1 in
    (omega arith, e.0, e.1)

pub returns-then-text-i : goal.returns-then-text-i
returns-then-text-i c =
    let a = c.args in
    let at = c.loop-i in
    let e = number_end a.n a.text.now at.i at.value (omega (arith, front_length a.n a.text.now)) at.invariant.1 in
    (omega arith, e.0, e.1)

pub returns-then-b-lt48 : goal.returns-then-b-lt48
returns-then-b-lt48 c =
    let a = c.args in
    let at = c.loop-i in
    let e = number_under a.n a.text.now at.i at.value (omega arith) (omega arith) (omega arith) c.if-b-lt48.true at.invariant.1 in
    (omega arith, e.0, e.1)

pub returns-then-b-gt57 : goal.returns-then-b-gt57
returns-then-b-gt57 c =
    let a = c.args in
    let at = c.loop-i in
    let e = number_over a.n a.text.now at.i at.value (omega arith) (omega arith) (omega arith) c.if-b-gt57.true at.invariant.1 in
    (omega arith, e.0, e.1)

pub loop-i-preserved : goal.loop-i-preserved
loop-i-preserved c =
    let a = c.args in
    let at = c.loop-i in
    (omega arith, number_more a.n a.text.now at.i at.value _ _ (omega arith) (omega arith) (omega arith) (omega arith) (omega arith) refl c.more-value.ensures at.invariant.1)

pub returns : goal.returns
returns c =
    let a = c.args in
    let at = c.loop-i in
    let e = number_end a.n a.text.now at.i at.value (omega (arith, front_length a.n a.text.now)) at.invariant.1 in
    let all : at.i ≡ 20 = omega arith in
    (omega arith, sym all ∙ e.0, e.1)

-- `texts::part_end` meets its contract. The place and what is left of the part give its end.
-- Assumes nothing.
use native.Mathlib.Omega.{arith}
use mathlib.Core.Path.{◌≡◌, refl, sym, ◌∙◌}
use lib.ListN.{length}
use Rattle.texts.proofs.Fronts.{front_more, front_stop, front_end}
use Rattle.texts.proofs.part_end.Goals as goal

pub loop-i-init : goal.loop-i-init
loop-i-init c = (omega arith, c.requires, refl)

pub loop-i-preserved : goal.loop-i-preserved
loop-i-preserved c =
    let at = c.loop-i in
    (omega arith, omega arith, front_more _ _ at.i c.loop-i-test.true (sym c.belongs.ensures ∙ c.if-not-belongs.false) ∙ at.invariant.2)

pub returns-then-not-belongs : goal.returns-then-not-belongs
returns-then-not-belongs c =
    let at = c.loop-i in
    (at.invariant.0, at.invariant.1, front_stop _ _ at.i c.loop-i-test.true (sym c.belongs.ensures ∙ c.if-not-belongs.true) ∙ at.invariant.2)

pub returns : goal.returns
returns c =
    let at = c.loop-i in
    let e : at.i ≡ length c.args.text.now = omega arith in
    (c.requires, omega arith, sym e ∙ front_end _ _ at.i c.loop-i-test.false ∙ at.invariant.2)

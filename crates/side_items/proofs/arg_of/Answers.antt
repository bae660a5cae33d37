-- `side_items::arg_of` meets its contract: a law of `Needed.antt` for each way.
-- Assumes nothing.
use mathlib.Core.Path.{refl, sym, ◌∙◌, ap}
use lib.ListN.{length}
use Rattle.side_items.proofs.Needed.{arg_bracket, arg_never, arg_low, arg_let, arg_high}
use Rattle.side_items.proofs.arg_of.Goals as goal

pub set_before-requires : goal.set_before-requires
set_before-requires c = c.requires

pub shape_of-args-then-k-eq-TESTED : goal.shape_of-args-then-k-eq-TESTED
shape_of-args-then-k-eq-TESTED c = ap length c.set_before.ensures.1

pub returns-then-k-eq-TESTED : goal.returns-then-k-eq-TESTED
returns-then-k-eq-TESTED c =
    let s = c.set_before in
    (s.ensures.0 ∙ sym (arg_bracket _ _ c.if-k-eq-TESTED.true), s.ensures.1)

pub set_before-requires-then-k-eq-NEVER_LINE : goal.set_before-requires-then-k-eq-NEVER_LINE
set_before-requires-then-k-eq-NEVER_LINE c = c.requires

pub shape_of-args-then-k-eq-NEVER_LINE : goal.shape_of-args-then-k-eq-NEVER_LINE
shape_of-args-then-k-eq-NEVER_LINE c = ap length c.set_before-then-k-eq-NEVER_LINE.ensures.1

pub returns-then-k-eq-NEVER_LINE : goal.returns-then-k-eq-NEVER_LINE
returns-then-k-eq-NEVER_LINE c =
    let s = c.set_before-then-k-eq-NEVER_LINE in
    (s.ensures.0 ∙ sym (arg_never _ _ c.if-k-eq-NEVER_LINE.true), s.ensures.1)

pub returns-then-k-lt-A_LET : goal.returns-then-k-lt-A_LET
returns-then-k-lt-A_LET c = (sym (arg_low _ _ c.if-k-eq-TESTED.false c.if-k-lt-A_LET.true), refl)

pub returns-then-k-lt-LETS_END : goal.returns-then-k-lt-LETS_END
returns-then-k-lt-LETS_END c = (sym (arg_let _ _ c.if-k-lt-A_LET.false c.if-k-lt-LETS_END.true), refl)

pub returns : goal.returns
returns c = (sym (arg_high _ _ c.if-k-eq-NEVER_LINE.false c.if-k-lt-LETS_END.false), refl)

-- `sheet_fields::verdict_read` meets its contract: a field that is cut, of another tag, or whose contents are no verdict is wrong.
-- Assumes nothing.
use native.Mathlib.Omega.{arith}
use Rattle.sheet_fields.proofs.Whole.{whole_here, cut_here}
use Rattle.sheet_fields.proofs.Going.{verdict_cut, verdict_tag, verdict_none, verdict_proved, verdict_refuted}
use Rattle.sheet_fields.proofs.verdict_read.Goals as goal

pub returns-in_default : goal.returns-in_default
returns-in_default c =
    let bs = c.args.sheet.now in
    λ f first at heads chain s A.
    verdict_cut f bs first heads chain at A (cut_here bs at c.in_default.is s)

pub returns-then-whole-ne1 : goal.returns-then-whole-ne1
returns-then-whole-ne1 c =
    let bs = c.args.sheet.now in
    λ f first at heads chain s A.
    verdict_tag f bs first heads chain at A (whole_here bs at c.in-Some.is s) (omega arith)

pub returns-in-Some-Proved : goal.returns-in-Some-Proved
returns-in-Some-Proved c =
    let bs = c.args.sheet.now in
    λ f first at heads chain s A.
    (verdict_proved f bs first heads chain at A (whole_here bs at c.in-Some.is s) (omega arith) (rw c.in-Some-Proved.field-0-is at c.in-Some-Proved.ensures), omega arith)

pub returns-in-Some-Refuted : goal.returns-in-Some-Refuted
returns-in-Some-Refuted c =
    let bs = c.args.sheet.now in
    λ f first at heads chain s A.
    (verdict_refuted f bs first heads chain at A (whole_here bs at c.in-Some.is s) (omega arith) (rw c.in-Some-Refuted.field-0-is at c.in-Some-Refuted.ensures), omega arith)

pub returns-in-None : goal.returns-in-None
returns-in-None c =
    let bs = c.args.sheet.now in
    λ f first at heads chain s A.
    verdict_none f bs first heads chain at A (whole_here bs at c.in-Some.is s) (omega arith) c.in-None.ensures

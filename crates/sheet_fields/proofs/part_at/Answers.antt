-- `sheet_fields::part_at` meets its contract: each turn keeps what holds between two fields, or answers the part.
-- Assumes nothing.
use mathlib.Core.Path.{◌∙◌, ap, subst, subst⁻¹}
use lib.ListN.{drop}
use Rattle.std.specs.Prelude.{Ok}
use Rattle.std.proofs.lemmas.Result.{err_from_is_err_and}
use Rattle.claims.specs.Fields.{next_field}
use Rattle.fields.specs.Places.{Stands}
use Rattle.sheet_fields.specs.inner.Between.{Between}
use Rattle.sheet_fields.proofs.Turns.{turn_on, turn_over, turn_wrong}
use Rattle.sheet_fields.proofs.part_at.Goals as goal

pub step-requires : goal.step-requires
step-requires c =
    let l = c.loop-next in (
      subst (λ bs. Stands bs l.r.at (next_field (drop l.r.at bs)) c.field-field.result) l.invariant.0 c.field-field.ensures,
      (c.args.at, l.invariant.1),
    )

pub returns-in_err-next-clause-inside : goal.returns-in_err-next-clause-inside
returns-in_err-next-clause-inside c =
    let a = c.args in
    let l = c.loop-next in
    let p = err_from_is_err_and c.from_residual.result c.from_residual.ensures.1 in
    rw (p.1, p.2)
    (turn_wrong a.f a.sheet.now a.at c.step.new.heads c.step.new.chain l.awaited c.step.result (c.step.ensures a.at l.invariant.1)
    c.in_err-next.field-0.0 c.in_err-next.was).inside

pub returns-in_err-next-clause-read : goal.returns-in_err-next-clause-read
returns-in_err-next-clause-read c =
    let a = c.args in
    let l = c.loop-next in
    let p = err_from_is_err_and c.from_residual.result c.from_residual.ensures.1 in
    rw (p.1, p.2)
    (turn_wrong a.f a.sheet.now a.at c.step.new.heads c.step.new.chain l.awaited c.step.result (c.step.ensures a.at l.invariant.1)
    c.in_err-next.field-0.0 c.in_err-next.was).read

pub loop-next-smaller : goal.loop-next-smaller
loop-next-smaller c =
    let a = c.args in
    let l = c.loop-next in
    (turn_on a.f a.sheet.now a.at c.step.new.heads c.step.new.chain l.awaited c.step.result (c.step.ensures a.at l.invariant.1)
    c.in-On.next c.in-On.end (c.in_ok-next.was ∙ ap Ok c.in-On.is)).1

pub loop-next-preserved : goal.loop-next-preserved
loop-next-preserved c =
    let a = c.args in
    let l = c.loop-next in (
      ap (λ b. b.now) c.moved-r.ensures.0 ∙ l.invariant.0,
      subst⁻¹ (Between a.f a.sheet.now a.at c.step.new.heads c.step.new.chain c.in-On.next) c.moved-r.ensures.1
          (turn_on a.f a.sheet.now a.at c.step.new.heads c.step.new.chain l.awaited c.step.result (c.step.ensures a.at l.invariant.1)
          c.in-On.next c.in-On.end (c.in_ok-next.was ∙ ap Ok c.in-On.is)).0,
    )

pub returns-in-Over-clause-inside : goal.returns-in-Over-clause-inside
returns-in-Over-clause-inside c =
    let a = c.args in
    let l = c.loop-next in
    (turn_over a.f a.sheet.now a.at c.step.new.heads c.step.new.chain l.awaited c.step.result (c.step.ensures a.at l.invariant.1)
    c.in-Over.part (c.in_ok-next.was ∙ ap Ok c.in-Over.is)).inside

pub returns-in-Over-clause-read : goal.returns-in-Over-clause-read
returns-in-Over-clause-read c =
    let a = c.args in
    let l = c.loop-next in
    (turn_over a.f a.sheet.now a.at c.step.new.heads c.step.new.chain l.awaited c.step.result (c.step.ensures a.at l.invariant.1)
    c.in-Over.part (c.in_ok-next.was ∙ ap Ok c.in-Over.is)).read

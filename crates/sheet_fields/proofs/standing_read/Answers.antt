-- `sheet_fields::standing_read` meets its contract: where no standing follows, where one is wrong or one too many, and where one is
-- taken into the index.
-- Assumes nothing.
use Prim.Native.Nat.{◌≤◌}
use native.Mathlib.Omega.{arith}
use mathlib.Core.Path.{sym, ◌∙◌, subst⁻¹}
use lib.ListN.{length}
use Rattle.sheet_standings.specs.Layout.{field_length}
use Rattle.sheet_fits.proofs.Listable.{next_inside}
use Rattle.sheet_fits.proofs.Verdicts.{all_bytes}
use Rattle.sheet_fields.proofs.Whole.{whole_here, cut_here, sized_whole}
use Rattle.sheet_fields.proofs.SoFar.{listable_sized, sized_room}
use Rattle.sheet_fields.proofs.Outcomes.{standing_end}
use Rattle.sheet_fields.proofs.Going.{standing_cut_goes, standing_full_goes, standing_unsized_goes, standing_wrong_goes, standing_more_goes}
use Rattle.sheet_fields.proofs.standing_read.Goals as goal

pub returns-then-not-tagged : goal.returns-then-not-tagged
returns-then-not-tagged c =
    let a = c.args in
    λ first A.
    standing_end a.f a.sheet.now (all_bytes a.sheet.now c.type_inv.sheet) first _ _ a.s.base a.s.count a.at A (sym c.tagged.ensures ∙ c.if-not-tagged.true)

pub returns-in_default : goal.returns-in_default
returns-in_default c =
    let a = c.args in
    λ first A.
    standing_cut_goes a.f a.sheet.now first _ _ a.at (all_bytes a.sheet.now c.type_inv.sheet) a.s.base a.s.count A (sym c.tagged.ensures ∙ c.if-not-tagged.false)
    (cut_here a.sheet.now a.at c.in_default.is c.requires.0)

pub returns-then-s-eq-MOST_STANDINGS : goal.returns-then-s-eq-MOST_STANDINGS
returns-then-s-eq-MOST_STANDINGS c =
    let a = c.args in
    λ first A.
    standing_full_goes a.f a.sheet.now first _ _ a.at (all_bytes a.sheet.now c.type_inv.sheet) a.s.base a.s.count A (sym c.tagged.ensures ∙ c.if-not-tagged.false)
    (omega arith)

pub returns-then-not-is_sized : goal.returns-then-not-is_sized
returns-then-not-is_sized c =
    let a = c.args in
    let w = whole_here a.sheet.now a.at c.in-Some.is c.requires.0 in
    λ first A.
    standing_unsized_goes a.f a.sheet.now first _ _ a.at (all_bytes a.sheet.now c.type_inv.sheet) a.s.base a.s.count A (sym c.tagged.ensures ∙ c.if-not-tagged.false)
    (sym (sized_whole w a.f.ring) ∙ sym c.is_sized.ensures ∙ c.if-not-is_sized.true)

pub may_list-requires : goal.may_list-requires
may_list-requires c =
    let a = c.args in
    let w = whole_here a.sheet.now a.at c.in-Some.is c.requires.0 in
    let listed = c.requires.1 in (
      listed.index,
      listed.few,
      subst⁻¹ (λ i. i ≤ length a.sheet.now) listed.places listed.inside,
      sym (sized_whole w a.f.ring) ∙ sym c.is_sized.ensures ∙ c.if-not-is_sized.false,
    )

pub returns-then-not-may_list : goal.returns-then-not-may_list
returns-then-not-may_list c =
    let a = c.args in
    λ first A.
    standing_wrong_goes a.f a.sheet.now first _ _ a.at (all_bytes a.sheet.now c.type_inv.sheet) a.s.base a.s.count A (sym c.tagged.ensures ∙ c.if-not-tagged.false)
    (sym c.may_list.ensures ∙ c.if-not-may_list.true)

pub add-requires : goal.add-requires
add-requires c =
    let a = c.args in
    let listed = c.requires.1 in
    let m = sym c.may_list.ensures ∙ c.if-not-may_list.false in (
      listed.index,
      omega (arith, listed.few),
      next_inside (field_length a.f.ring) a.s.base a.s.count a.at (length a.sheet.now) (sym listed.places)
          (sized_room a.f.ring a.sheet.now a.at
          (listable_sized a.f.ring a.f.atoms a.f.left a.f.right a.sheet.now a.s.base a.s.count a.at m)),
    )

pub returns : goal.returns
returns c =
    let a = c.args in
    let w = whole_here a.sheet.now a.at c.in-Some.is c.requires.0 in
    λ first A.
    standing_more_goes a.f a.sheet.now first _ _ a.at (all_bytes a.sheet.now c.type_inv.sheet) a.s.base a.s.count A (sym c.tagged.ensures ∙ c.if-not-tagged.false) w
    (omega (arith, A.listed.few, c.if-s-eq-MOST_STANDINGS.false))
    (sym c.may_list.ensures ∙ c.if-not-may_list.false) c.add.new.heads c.add.new.chain c.add.ensures

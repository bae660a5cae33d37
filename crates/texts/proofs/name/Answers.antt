-- `texts::name` meets its contract. The names of the lines that are left, counted down, are those of the text.
-- Assumes nothing.
use native.Mathlib.Omega.{arith}
use mathlib.Core.Path.{refl, ◌∙◌, ap}
use lib.ListN.{drop, length-drop}
use Rattle.texts.specs.Lines.{in_line, behind, declared_by, name_at}
use Rattle.texts.proofs.LineLaws.{part_front, part_back}
use Rattle.texts.proofs.NameLaws.{name_less, name_here, name_later, name_none}
use Rattle.texts.proofs.name.Goals as goal

pub loop-at-init : goal.loop-at-init
loop-at-init c = (omega arith, refl)

pub returns-then-left-eq0 : goal.returns-then-left-eq0
returns-then-left-eq0 c =
    let d = c in
    let at = d.loop-at in
    let a = d.args in
    let end = d.part_end-end.ensures.2 in
    name_here a.word.now _ (drop at.at a.text.now) _ (simp length-drop (omega arith))
    (d.declared-found.ensures ∙ ap (declared_by a.word.now) (part_front in_line _ _ _ end)) c.if-found-gt0.true c.if-left-eq0.true ∙ at.invariant.1

pub loop-at-preserved-else-left-eq0 : goal.loop-at-preserved-else-left-eq0
loop-at-preserved-else-left-eq0 c =
    let d = c in
    let at = d.loop-at in
    let a = d.args in
    let end = d.part_end-end.ensures.2 in (
      d.line_after-next.ensures.0,
      ap (name_at a.word.now _) (d.line_after-next.ensures.2 ∙ ap behind (part_back in_line _ _ _ end))
          ∙ name_later a.word.now _ (drop at.at a.text.now) _ (simp length-drop (omega arith))
          (d.declared-found.ensures ∙ ap (declared_by a.word.now) (part_front in_line _ _ _ end)) c.if-found-gt0.true c.if-left-eq0.false ∙ at.invariant.1,
    )

pub loop-at-preserved : goal.loop-at-preserved
loop-at-preserved c =
    let d = c in
    let at = d.loop-at in
    let a = d.args in
    let end = d.part_end-end.ensures.2 in (
      d.line_after-next.ensures.0,
      ap (name_at a.word.now _) (d.line_after-next.ensures.2 ∙ ap behind (part_back in_line _ _ _ end))
          ∙ name_less a.word.now _ (drop at.at a.text.now) _ (simp length-drop (omega arith))
          (d.declared-found.ensures ∙ ap (declared_by a.word.now) (part_front in_line _ _ _ end)) c.if-found-gt0.false ∙ at.invariant.1,
    )

pub returns : goal.returns
returns c =
    let at = c.loop-at in
    let a = c.args in
    name_none a.word.now _ (drop at.at a.text.now) (simp length-drop (omega arith)) ∙ at.invariant.1

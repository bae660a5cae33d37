-- `sheet_part::part` meets its contract: what was read of the part, and whether it passes, for each way that a part may end.
-- Assumes nothing.
use native.Mathlib.Omega.{arith}
use mathlib.Core.Path.{refl, ◌∙◌, ap}
use Rattle.std.specs.Prelude.{Ok}
use Rattle.std.proofs.lemmas.Result.{err_from_is_err_and}
use mathlib.Core.List.{[]}
use lib.ListN.{drop}
use Rattle.claims.specs.SheetReading.{part_in}
use Rattle.memory.specs.Memory.{zeros}
use Rattle.sheet_part.proofs.Answers.{listed_ready, listed_few, word_inside, wrong_few, proved_tests, refuted_tests, wrong_tests}
use Rattle.sheet_part.proofs.part.Goals as goal

pub part_at-requires : goal.part_at-requires
unfolding zeros
part_at-requires c = (refl, refl)

pub returns-in_err-said : goal.returns-in_err-said
returns-in_err-said c =
    let a = c.args in
    let p = err_from_is_err_and c.from_residual.result c.from_residual.ensures.1 in
    rw (p.1, p.2)
    (record {
      few = wrong_few _ _ _ _ _ c.part_at.result c.part_at.ensures.inside _ c.in_err-said.was;
      tested = λ D d k. wrong_tests d a.sheet.now a.at [] [] k c.part_at.result (part_in D k (drop a.at a.sheet.now)) (c.part_at.ensures.read _ _ D d k) _ c.in_err-said.was;
    })

pub proves-passes-requires : goal.proves-passes-requires
proves-passes-requires c =
    listed_ready _ _ _ _ _ c.part_at.result c.part_at.ensures.inside _ _ _ (c.in_ok-said.was ∙ ap Ok c.in-Proved.is)

pub word_refutes-passes-requires : goal.word_refutes-passes-requires
word_refutes-passes-requires c =
    word_inside _ _ _ _ _ c.part_at.result c.part_at.ensures.inside _ _ (c.in_ok-said.was ∙ ap Ok c.in-Refuted.is)

pub returns-in-Proved : goal.returns-in-Proved
returns-in-Proved c =
    let a = c.args in
    let e = c.in_ok-said.was ∙ ap Ok c.in-Proved.is in
    let few = listed_few _ _ _ _ _ c.part_at.result c.part_at.ensures.inside _ _ _ e in record {
      few = omega (arith, few);
      tested = λ D d k.
          proved_tests d a.sheet.now a.at _ _ k c.part_at.result c.part_at.ensures.inside (part_in D k (drop a.at a.sheet.now))
          (c.part_at.ensures.read _ _ D d k) _ _ _ e _ c.proves-passes.ensures;
    }

pub returns-in-Refuted : goal.returns-in-Refuted
returns-in-Refuted c =
    let a = c.args in record {
      few = omega arith;
      tested = λ D d k.
          refuted_tests d a.sheet.now a.at _ _ k c.part_at.result c.part_at.ensures.inside (part_in D k (drop a.at a.sheet.now))
          (c.part_at.ensures.read _ _ D d k) _ _ (c.in_ok-said.was ∙ ap Ok c.in-Refuted.is) _
          c.word_refutes-passes.ensures;
    }

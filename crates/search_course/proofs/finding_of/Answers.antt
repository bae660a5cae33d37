-- `search_course::finding_of` meets its contract, by the phase.
-- Assumes nothing.
use Rattle.search_course.specs.Turns.{finding_of}
use borrow.Author.Tests.{ne_eqb}
use mathlib.Core.Path.{refl}
use Rattle.search_course.proofs.finding_of.Goals as goal

pub returns-then-t-eq-PROVED : goal.returns-then-t-eq-PROVED
unfolding finding_of
returns-then-t-eq-PROVED c = rw c.if-t-eq-PROVED.true refl

pub returns-then-t-eq-REFUTED : goal.returns-then-t-eq-REFUTED
unfolding finding_of
returns-then-t-eq-REFUTED c = rw c.if-t-eq-REFUTED.true refl

pub returns : goal.returns
unfolding finding_of
returns c = rw (ne_eqb _ _ c.if-t-eq-PROVED.false, ne_eqb _ _ c.if-t-eq-REFUTED.false) refl

-- `sheet_listed::atoms_tried` meets its contract: by the level and the kind of the claim.
-- Assumes nothing.
use Rattle.kat.proofs.Bools.{not_true_false}
use Rattle.standings.proofs.Tests.{not_false_true}
use Rattle.sheet_listed.proofs.Ways.{all_tried, first_tried_lem, later_tried_lem}
use mathlib.Core.Bool.{not}
use mathlib.Core.Path.{ap}
use Rattle.sheet_listed.proofs.atoms_tried.Goals as goal

pub returns-then-not-t : goal.returns-then-not-t
returns-then-not-t c = later_tried_lem _ _ _ _ (not_true_false _ (ap not c.if-not-t.true)) _ c.word.ensures

pub returns-then-t : goal.returns-then-t
returns-then-t c = all_tried _ _ _ _ (not_false_true _ (ap not c.if-not-t.false)) c.if-t.true

pub returns-else-t : goal.returns-else-t
returns-else-t c =
    let at = c in
    first_tried_lem _ _ _ _ (not_false_true _ (ap not at.if-not-t.false)) at.if-t.false _ c.word-else-t.ensures

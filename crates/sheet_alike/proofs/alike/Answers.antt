-- `sheet_alike::alike` meets its contract: the tests stand in the definition's order.
-- Assumes nothing.
use Rattle.sheet_alike.specs.Masks.{alike_words}
use Rattle.standings.proofs.Tests.{first_fails, second_fails, third_decides}
use mathlib.Core.Bool.{not}
use mathlib.Core.Path.{ap}
use Rattle.sheet_alike.proofs.alike.Goals as goal

pub returns-then-not-ends : goal.returns-then-not-ends
unfolding alike_words
returns-then-not-ends c = first_fails _ _ _ _ c.ring_ends_alike-ends.ensures (ap not c.if-not-ends.true)

pub returns-then-not-rows : goal.returns-then-not-rows
unfolding alike_words
returns-then-not-rows c =
    let at = c in
    second_fails _ _ _ _ _ at.ring_ends_alike-ends.ensures (ap not at.if-not-ends.false) c.rows_alike-rows.ensures (ap not c.if-not-rows.true)

pub returns : goal.returns
unfolding alike_words
returns c =
    let at = c in
    third_decides _ _ _ _ _ _ at.ring_ends_alike-ends.ensures (ap not at.if-not-ends.false) c.rows_alike-rows.ensures
    (ap not c.if-not-rows.false) c.rows_alike.ensures

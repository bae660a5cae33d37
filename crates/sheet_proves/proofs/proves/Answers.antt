-- `sheet_proves::proves` meets its contract: the tests stand in the order of `specs/inner/Standings.antt`.
-- Assumes nothing.
use Rattle.sheet_standings.specs.Layout.{cell_count}
use Rattle.sheet_proves.proofs.Places.{zeros_small}
use Rattle.sheet_proves.proofs.Order.{alone_fails, first_fail, places_decide}
use mathlib.Core.Bool.{not}
use mathlib.Core.Path.{ap}
use Rattle.sheet_proves.proofs.proves.Goals as goal

pub returns-then-not-none : goal.returns-then-not-none
returns-then-not-none c = alone_fails _ _ _ _ _ _ _ c.none_alone-none.ensures (ap not c.if-not-none.true)

pub letters_listed-begins-requires : goal.letters_listed-begins-requires
letters_listed-begins-requires c =
    let start = c in
    (start.requires, zeros_small (cell_count start.args.l.facts.ring) 67)

pub returns-then-not-begins : goal.returns-then-not-begins
returns-then-not-begins c =
    let at = c in
    first_fail _ _ _ _ _ _ _ at.none_alone-none.ensures (ap not at.if-not-none.false) _ _ at.masks.ensures _
    c.letters_listed-begins.ensures (ap not c.if-not-begins.true)

pub returns : goal.returns
returns c =
    let at = c in
    places_decide _ _ _ _ _ _ _ at.none_alone-none.ensures (ap not at.if-not-none.false) _ _ at.masks.ensures _
    c.letters_listed-begins.ensures (ap not c.if-not-begins.false) _ c.places_pass.ensures

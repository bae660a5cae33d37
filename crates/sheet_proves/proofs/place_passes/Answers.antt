-- `sheet_proves::place_passes` meets its contract: the standing is read, and completes or leads to listed ones.
-- Assumes nothing.
use native.Mathlib.Omega.{arith}
use mathlib.Core.Path.{◌∙◌, ap}
use lib.ListN.{length}
use Rattle.sheet_standings.specs.Layout.{standing_cells, listed_cells}
use Rattle.sheet_proves.proofs.Places.{place_before, read_small}
use Rattle.sheet_proves.proofs.Ways.{place_completes, place_leads}
use Rattle.sheet_proves.proofs.place_passes.Goals as goal

pub place-at-requires : goal.place-at-requires
place-at-requires c =
    let a = c.args in
    omega (arith, place_before a.t.of.facts.ring a.t.of.base a.i a.t.of.count (length a.sheet.now) c.requires.1 c.requires.0.2)

pub completes-ends-requires : goal.completes-ends-requires
completes-ends-requires c =
    let start = c in
    read_small _ _ _ _ (λ i. omega (arith, start.shared_slice_known-1.given i)) c.load.ensures

pub returns-then-ends : goal.returns-then-ends
unfolding listed_cells
returns-then-ends c =
    let at = c in
    let a = at.args in
    place_completes _ _ _ _ _ _ _ _ _
    (at.load.ensures ∙ ap (standing_cells a.t.of.facts.ring a.sheet.now) at.place-at.ensures) _
    (c.completes-ends.ensures 0) c.if-ends.true

pub letters_listed-requires : goal.letters_listed-requires
letters_listed-requires c =
    let at = c in
    let start = c in
    (start.requires.0, read_small _ _ _ _ (λ i. omega (arith, start.shared_slice_known-1.given i)) at.load.ensures)

pub returns : goal.returns
unfolding listed_cells
returns c =
    let at = c in
    let a = at.args in
    place_leads _ _ _ _ _ _ _ _ _
    (at.load.ensures ∙ ap (standing_cells a.t.of.facts.ring a.sheet.now) at.place-at.ensures) _
    (c.completes-ends.ensures 0) c.if-ends.false _ at.requires.2 _
    c.letters_listed.ensures

-- `sheet_listed::atoms_listed` meets its contract. The invariant: the atoms left pass exactly where all do. The measure is the count of ones
-- of the set left.
-- Assumes nothing.
use native.Mathlib.Omega.{arith}
use mathlib.Core.Path.{refl, sym, ◌∙◌, ap}
use lib.Count.{trailing_le}
use lib.ListN.{take}
use Rattle.bits.proofs.Lowest.{lowest}
use Rattle.standings.proofs.Loops.{all_end, all_fails, all_passes}
use Rattle.sheet_standings.specs.Layout.{cell_count}
use Rattle.sheet_listed.specs.Listed.{part_cells, letter_listed, atoms_listed}
use Rattle.sheet_listed.proofs.Ways.{letter_passes}
use mathlib.Core.Bool.{not}
use Rattle.sheet_listed.proofs.atoms_listed.Goals as goal

pub loop-rest-init : goal.loop-rest-init
unfolding atoms_listed
loop-rest-init c = (omega arith, refl)

pub overflow_cast-a : goal.overflow_cast-a
overflow_cast-a c = omega (arith, trailing_le 64 c.loop-rest.rest)

pub step-requires : goal.step-requires
step-requires c = (c.requires.1, omega (arith, ((lowest 64 c.loop-rest.rest c.loop-rest.invariant.0 c.loop-rest-test.true)).inside))

pub listed-requires : goal.listed-requires
listed-requires c = c.requires.0

pub returns-then-not-listed : goal.returns-then-not-listed
returns-then-not-listed c =
    let a = c.args in
    let l = a.l in
    sym
    (all_fails
    (letter_listed l.of.facts.ring a.left.now a.right.now
    (part_cells l.of.facts.ring a.sheet.now l.of.base l.of.count) l.first
    (take (cell_count l.of.facts.ring) a.from.now) l.relation)
    64 ((lowest 64 c.loop-rest.rest c.loop-rest.invariant.0 c.loop-rest-test.true)) _
    (letter_passes _ _ _ _ _ _ _ _ _ _ c.step.ensures c.listed.ensures) (ap not c.if-not-listed.true))
    ∙ c.loop-rest.invariant.1

pub loop-rest-smaller : goal.loop-rest-smaller
loop-rest-smaller c = omega (arith, ((lowest 64 c.loop-rest.rest c.loop-rest.invariant.0 c.loop-rest-test.true)).count)

pub loop-rest-preserved : goal.loop-rest-preserved
loop-rest-preserved c =
    let x = (lowest 64 c.loop-rest.rest c.loop-rest.invariant.0 c.loop-rest-test.true) in
    let a = c.args in
    let l = a.l in (
      omega (arith, x.less),
      all_passes
          (letter_listed l.of.facts.ring a.left.now a.right.now
          (part_cells l.of.facts.ring a.sheet.now l.of.base l.of.count) l.first
          (take (cell_count l.of.facts.ring) a.from.now) l.relation)
          64 x _ (letter_passes _ _ _ _ _ _ _ _ _ _ c.step.ensures c.listed.ensures) (ap not c.if-not-listed.false)
          ∙ c.loop-rest.invariant.1,
    )

pub returns : goal.returns
returns c =
    let a = c.args in
    let l = a.l in
    sym
    (all_end
    (letter_listed l.of.facts.ring a.left.now a.right.now
    (part_cells l.of.facts.ring a.sheet.now l.of.base l.of.count) l.first
    (take (cell_count l.of.facts.ring) a.from.now) l.relation)
    64 c.loop-rest.rest c.loop-rest-test.false)
    ∙ c.loop-rest.invariant.1

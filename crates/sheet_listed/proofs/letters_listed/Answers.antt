-- `sheet_listed::letters_listed` meets its contract. The invariant: the relations left pass exactly where all do.
-- Assumes nothing.
use native.Mathlib.Omega.{arith}
use mathlib.Core.Path.{refl, sym, ◌∙◌, ap}
use lib.ListN.{take}
use Rattle.standings.proofs.Loops.{every_end, every_fails, every_passes}
use Rattle.sheet_standings.specs.Layout.{cell_count}
use Rattle.sheet_listed.specs.Listed.{part_cells, relation_listed, letters_listed}
use Rattle.sheet_listed.proofs.Ways.{letters_ready, relation_passes}
use mathlib.Core.Bool.{not}
use Rattle.sheet_listed.proofs.letters_listed.Goals as goal

pub loop-r-init : goal.loop-r-init
unfolding letters_listed
loop-r-init c = refl

pub atoms_listed-requires : goal.atoms_listed-requires
atoms_listed-requires c =
    let p = c in
    letters_ready p.args.t p.args.left.now p.args.right.now p.args.sheet.now p.args.from.now _ _ c.letters_of.ensures _ _ p.requires

pub returns-then-not-atoms_listed : goal.returns-then-not-atoms_listed
returns-then-not-atoms_listed c =
    let a = c.args in
    let l = c.loop-r in
    let t = a.t in
    sym
    (every_fails
    (relation_listed t.of.facts a.left.now a.right.now
    (part_cells t.of.facts.ring a.sheet.now t.of.base t.of.count) t.first
    (take (cell_count t.of.facts.ring) a.from.now) t.masks)
    l.r t.of.facts.relations (omega arith) c.atoms_listed.result
    (relation_passes _ _ _ _ _ _ _ c.letters_of.ensures _ c.atoms_listed.ensures) (ap not c.if-not-atoms_listed.true))
    ∙ l.invariant

pub loop-r-preserved : goal.loop-r-preserved
loop-r-preserved c =
    let a = c.args in
    let l = c.loop-r in
    let t = a.t in
    every_passes
    (relation_listed t.of.facts a.left.now a.right.now
    (part_cells t.of.facts.ring a.sheet.now t.of.base t.of.count) t.first
    (take (cell_count t.of.facts.ring) a.from.now) t.masks)
    l.r t.of.facts.relations (omega arith) c.atoms_listed.result
    (relation_passes _ _ _ _ _ _ _ c.letters_of.ensures _ c.atoms_listed.ensures) (ap not c.if-not-atoms_listed.false)
    ∙ l.invariant

pub returns : goal.returns
returns c =
    let a = c.args in
    let l = c.loop-r in
    let t = a.t in
    sym
    (every_end
    (relation_listed t.of.facts a.left.now a.right.now
    (part_cells t.of.facts.ring a.sheet.now t.of.base t.of.count) t.first
    (take (cell_count t.of.facts.ring) a.from.now) t.masks)
    l.r t.of.facts.relations (omega arith))
    ∙ l.invariant

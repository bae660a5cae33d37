-- `sheet_proves::places_pass` meets its contract. The invariant: the standings left pass exactly where all do.
-- Assumes nothing.
use native.Mathlib.Omega.{arith}
use mathlib.Core.Path.{refl, sym, ◌∙◌, ap}
use Rattle.standings.proofs.Loops.{every_end, every_fails, every_passes}
use Rattle.sheet_proves.specs.inner.Standings.{place_passes, places_pass}
use mathlib.Core.Bool.{not}
use Rattle.sheet_proves.proofs.places_pass.Goals as goal

pub loop-i-init : goal.loop-i-init
unfolding places_pass
loop-i-init c = refl

pub place_passes-requires : goal.place_passes-requires
place_passes-requires c =
    let p = c.requires in
    (p.0, omega arith, p.1)

pub returns-then-not-place_passes : goal.returns-then-not-place_passes
returns-then-not-place_passes c =
    let a = c.args in
    let l = c.loop-i in
    sym
    (every_fails (place_passes a.t.of.facts a.left.now a.right.now a.sheet.now a.t.of.base a.t.of.count a.t.masks) l.i
    a.t.of.count (omega arith) c.place_passes.result c.place_passes.ensures (ap not c.if-not-place_passes.true))
    ∙ l.invariant

pub loop-i-preserved : goal.loop-i-preserved
loop-i-preserved c =
    let a = c.args in
    let l = c.loop-i in
    every_passes (place_passes a.t.of.facts a.left.now a.right.now a.sheet.now a.t.of.base a.t.of.count a.t.masks) l.i
    a.t.of.count (omega arith) c.place_passes.result c.place_passes.ensures (ap not c.if-not-place_passes.false)
    ∙ l.invariant

pub returns : goal.returns
returns c =
    let a = c.args in
    let l = c.loop-i in
    sym (every_end (place_passes a.t.of.facts a.left.now a.right.now a.sheet.now a.t.of.base a.t.of.count a.t.masks) l.i a.t.of.count (omega arith))
    ∙ l.invariant

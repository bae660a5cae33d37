-- `sheet_index::find` meets its contract. The invariant: the place is in the slot of the cells, and up to it the last
-- standing that has them is that of all.
-- Assumes nothing.
use Rattle.sheet_index.proofs.Kept.{follow_begin, follow_lower, follow_more, follow_found, follow_none}
use Rattle.sheet_index.proofs.Listed.{below_fits, equal_listed}
use Rattle.sheet_index.specs.Index.{slot_of}
use lib.ListN.{take}
use mathlib.Core.Path.{refl, ◌∙◌, ap}
use Prim.Native.Nat.{◌-◌}
use native.Mathlib.Omega.{arith}
use Rattle.sheet_index.proofs.find.Goals as goal

pub loop-place-init : goal.loop-place-init
loop-place-init c =
    let a = c.args in
    follow_begin _ _ _ _ c.requires.0 _ c.slot_of.result _
    (c.slot_of.ensures.0 ∙ ap (λ k. slot_of (take k a.cells.now)) c.count-k.ensures.0)
    c.slot_of.ensures.1 refl

pub begin-from-requires : goal.begin-from-requires
begin-from-requires c =
    let l = c.loop-place in
    let a = c.args in
    below_fits a.ring a.base a.n (l.place - 1) _ (omega arith) c.requires.2

pub returns-then-equal_at : goal.returns-then-equal_at
returns-then-equal_at c =
    let l = c.loop-place in
    let p = c.requires in
    follow_found _ _ _ _ p.0 _ l.place (l.place - 1) l.invariant (omega arith)
    (equal_listed _ _ _ _ _ _ _ _ c.begin-from.ensures.0
    c.count-k.ensures.0 c.equal_at.ensures
    ∙ c.if-equal_at.true)

pub loop-place-smaller : goal.loop-place-smaller
loop-place-smaller c =
    let l = c.loop-place in
    let p = c.requires in
    follow_lower _ _ _ _ p.0 _ l.place (l.place - 1) l.invariant (omega arith) _ refl

pub loop-place-preserved : goal.loop-place-preserved
loop-place-preserved c =
    let l = c.loop-place in
    let p = c.requires in
    follow_more _ _ _ _ p.0 _ l.place (l.place - 1) l.invariant (omega arith) _
    (equal_listed _ _ _ _ _ _ _ _ c.begin-from.ensures.0
    c.count-k.ensures.0 c.equal_at.ensures
    ∙ c.if-equal_at.false)
    refl

pub returns : goal.returns
returns c =
    follow_none _ _ _ _ c.requires.0 _ c.loop-place.place
    c.loop-place.invariant (omega arith)

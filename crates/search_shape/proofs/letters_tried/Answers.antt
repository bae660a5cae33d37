-- `search_shape::letters_tried` meets its contract: all letters at level 1 of a ring claim, and else those of the masks.
-- Assumes nothing.
use Rattle.search_shape.proofs.Tried.{path_masks, ring_masks}
use Rattle.search_alike.specs.Masks.{masks_of}
use mathlib.Core.Path.{◌∙◌, ap}
use borrow.Author.Rules.{rules}
use Rattle.search_shape.proofs.letters_tried.Goals as goal

pub returns-then-f : goal.returns-then-f
returns-then-f c = let a = c.args in
    let m = c.masks.ensures ∙ ap (λ k. masks_of k a.f.left a.left.now a.right.now) c.shape_of-k.ensures in
    record { first_ones = c.all_live.ensures ∙ ring_masks a.f a.left.now a.right.now c.if-f.true; later_ones = m }

pub returns : goal.returns
returns c = let a = c.args in
    let m = c.masks.ensures ∙ ap (λ k. masks_of k a.f.left a.left.now a.right.now) c.shape_of-k.ensures in
    record { first_ones = m ∙ path_masks a.f a.left.now a.right.now c.if-f.false; later_ones = m }

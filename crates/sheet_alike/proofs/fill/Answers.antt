-- `sheet_alike::fill` meets its contract. The invariant: with the rest filled, all of it is.
-- Assumes nothing.
use native.Mathlib.Omega.{arith}
use mathlib.Core.Path.{sym, ◌∙◌}
use lib.ListN.{length}
use Rattle.memory.proofs.Words.{fill_begin, fill_more, fill_end}
use Rattle.sheet_alike.specs.Masks.{mask_at}
use Rattle.sheet_alike.proofs.fill.Goals as goal

pub loop-r-init : goal.loop-r-init
loop-r-init c = fill_begin (mask_at c.args.f c.args.left.now c.args.right.now) c.args.out.now

pub loop-r-preserved : goal.loop-r-preserved
loop-r-preserved c =
    let l = c.loop-r in
    let a = c.args in
    fill_more (mask_at a.f a.left.now a.right.now) l.out (length a.out.now) l.r _ (omega arith) (omega arith)
    c.mask_at.ensures
    ∙ l.invariant

pub returns : goal.returns
returns c =
    let l = c.loop-r in
    let a = c.args in
    sym (fill_end (mask_at a.f a.left.now a.right.now) l.out (length a.out.now) l.r (omega arith)) ∙ l.invariant

-- `sheet_load::fill` meets its contract. The invariant: with the rest filled, all of it is.
-- Assumes nothing.
use Prim.Native.Nat.{◌+◌, ◌*◌}
use native.Mathlib.Omega.{arith}
use mathlib.Core.Path.{sym, ◌∙◌}
use lib.ListN.{length}
use Rattle.memory.proofs.Words.{fill_begin, fill_more, fill_end}
use Rattle.fields.specs.Places.{cell_at, cells_at}
use Rattle.sheet_load.proofs.fill.Goals as goal

pub loop-j-init : goal.loop-j-init
loop-j-init c = fill_begin (λ i. cell_at c.args.sheet.now (c.args.at + 4 * i)) c.args.to.now

pub loop-j-preserved : goal.loop-j-preserved
loop-j-preserved c =
    let l = c.loop-j in
    let a = c.args in
    fill_more (λ i. cell_at a.sheet.now (a.at + 4 * i)) l.to (length a.to.now) l.j _ (omega arith) (omega arith) c.cell.ensures
    ∙ l.invariant

pub returns : goal.returns
unfolding cells_at
returns c =
    let l = c.loop-j in
    let a = c.args in
    sym (fill_end (λ i. cell_at a.sheet.now (a.at + 4 * i)) l.to (length a.to.now) l.j (omega arith)) ∙ l.invariant

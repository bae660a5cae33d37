-- `sheet_index::equal_at` meets its contract. The invariant: the cells so far are equal.
-- Assumes nothing.
use Rattle.sheet_index.proofs.Listed.{cells_differ, cells_agree}
use borrow.Author.Count.{below_more}
use lib.Seq.{length-take-le}
use lib.ListN.{take}
use mathlib.Core.Path.{sym, ◌∙◌}
use native.Mathlib.Omega.{arith}
use Rattle.sheet_index.proofs.equal_at.Goals as goal

pub returns-then-cell_within-c : goal.returns-then-cell_within-c
returns-then-cell_within-c c =
    let a = c.args in
    sym (cells_differ a.sheet.now a.from a.n (take a.n a.cells.now) c.loop-j.j c.cell_within.result
    (omega (arith, length-take-le a.n a.cells.now c.requires.1))
    c.cell_within.ensures c.if-cell_within-c.true)

pub loop-j-preserved : goal.loop-j-preserved
loop-j-preserved c =
    below_more _ _ c.loop-j.invariant (sym c.cell_within.ensures ∙ c.if-cell_within-c.false)

pub returns : goal.returns
returns c =
    let a = c.args in
    sym (cells_agree a.sheet.now a.from a.n (take a.n a.cells.now) (length-take-le a.n a.cells.now c.requires.1)
    (λ i h. c.loop-j.invariant i (omega (arith, length-take-le a.n a.cells.now c.requires.1))))

-- `sheet_steps::step_set` meets its contract: the part of the table with the rows of atom a, clipped to the table, is that part.
-- Assumes nothing.
use Prim.Native.Nat.{◌+◌, ◌*◌}
use native.Mathlib.Omega.{arith}
use mathlib.Core.Path.{◌∙◌, ap, ap₂}
use lib.Bits.{bit_and}
use Rattle.bits.specs.Sets.{union_rows}
use Rattle.standings.specs.Steps.{readers, step_set}
use Rattle.side_tables.specs.Layout.{TABLE, ROW}
use Rattle.standings.proofs.Places.{part_clipped}
use borrow.Author.Rules.{rules}
use Rattle.sheet_steps.proofs.step_set.Goals as goal

pub returns : goal.returns
unfolding step_set readers
returns c =
    let a = c.args in
    let b = c in
    ap₂ bit_and
    (c.union_rows-reached.ensures
    ∙ ap (λ rows. union_rows rows a.s)
    (part_clipped a.table.now TABLE (omega arith) (ROW * a.a + 1) 64 b.least-from.result b.least-to.result (omega arith) (omega arith)))
    c.word_behind-readers.ensures

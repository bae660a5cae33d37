-- `sheet_steps::step_from` meets its contract: the place of atom a, clipped to the table, gives what the place gives.
-- Assumes nothing.
use Prim.Native.Nat.{◌*◌}
use native.Mathlib.Omega.{arith}
use mathlib.Core.Path.{◌∙◌, ap₂}
use lib.Bits.{bit_and}
use Rattle.standings.specs.Steps.{next_set, readers, step_from}
use Rattle.side_tables.specs.Layout.{TABLE, ROW}
use Rattle.standings.proofs.Places.{place_clipped}
use borrow.Author.Rules.{rules}
use Rattle.sheet_steps.proofs.step_from.Goals as goal

pub returns : goal.returns
unfolding step_from next_set readers
returns c =
    let a = c.args in
    let from = c.steps_at-from in
    ap₂ bit_and
    (c.word_behind-next.ensures
    ∙ place_clipped a.table.now TABLE (omega arith) (ROW * a.a) a.p from.result from.ensures)
    c.word_behind-readers.ensures

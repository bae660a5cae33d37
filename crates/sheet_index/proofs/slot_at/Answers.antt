-- `sheet_index::slot_at` meets its contract. The invariant: the hash, with the cells that are left, is that of all.
-- Assumes nothing.
use Rattle.sheet_index.proofs.Listed.{hash_cell}
use Rattle.sheet_index.proofs.Hashes.{hash_end}
use Rattle.fields.proofs.Cells.{cells_length}
use Rattle.fields.specs.Places.{cells_at}
use mathlib.Core.Path.{◌∙◌}
use native.Mathlib.Omega.{arith}
use Rattle.sheet_index.proofs.slot_at.Goals as goal

pub loop-j-preserved : goal.loop-j-preserved
loop-j-preserved c =
    let l = c.loop-j in
    let a = c.args in (
      c.mixed-h.ensures.1,
      hash_cell a.sheet.now a.from a.n l.h _ l.j c.cell_within.result (omega arith)
          c.cell_within.ensures c.mixed-h.ensures.0
          ∙ l.invariant.1,
    )

pub returns : goal.returns
returns c =
    let l = c.loop-j in
    let a = c.args in (
      hash_end (cells_at a.sheet.now a.from a.n) l.h l.j
          (omega (arith, cells_length a.sheet.now a.from a.n)) l.invariant.1,
      omega arith,
    )

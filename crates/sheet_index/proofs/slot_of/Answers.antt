-- `sheet_index::slot_of` meets its contract. The invariant: the hash, with the cells that are left, is that of all.
-- Assumes nothing.
use Rattle.sheet_index.proofs.Hashes.{hash_more, hash_end}
use lib.ListN.{take}
use mathlib.Core.Path.{refl, ◌∙◌}
use native.Mathlib.Omega.{arith}
use Rattle.sheet_index.proofs.slot_of.Goals as goal

pub loop-c-preserved : goal.loop-c-preserved
loop-c-preserved c =
    let l = c.loop-c in
    let a = c.args in (
      c.mixed-h.ensures.1,
      hash_more (take a.n a.cells.now) l.h _ l.c-index _ (omega arith)
          refl c.mixed-h.ensures.0
          ∙ l.invariant.1,
    )

pub returns : goal.returns
returns c =
    let l = c.loop-c in
    let a = c.args in (
      hash_end (take a.n a.cells.now) l.h l.c-index
          (omega arith) l.invariant.1,
      omega arith,
    )

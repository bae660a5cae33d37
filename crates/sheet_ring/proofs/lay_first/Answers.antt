-- `sheet_ring::lay_first` meets its contract: the rows of M, and 32 rows cleared.
-- Assumes nothing.
use native.Mathlib.Omega.{arith}
use mathlib.Core.Path.{◌≡◌, ◌∙◌, ap}
use lib.ListN.{length}
use Rattle.memory.specs.Memory.{zeros}
use Rattle.memory.proofs.Words.{words_length}
use Rattle.sheet_ring.proofs.Standing.{rows_laid, cleared_length}
use Rattle.sheet_ring.proofs.lay_first.Goals as goal

pub returns : goal.returns
returns c =
    let r = c in
    let to = r.args.to.now in
    let full : length to ≡ 67 = omega arith in
    rows_laid to full r.first_rows.ensures
    (c.clear.ensures ∙ ap zeros (cleared_length to full r.first_rows.ensures (words_length 32 _)))
    (words_length 32 _)

-- `sheet_ring::lay_on` meets its contract: the rows of M, and the rows of N.
-- Assumes nothing.
use native.Mathlib.Omega.{arith}
use mathlib.Core.Path.{◌≡◌}
use lib.ListN.{length}
use Rattle.memory.proofs.Words.{words_length}
use Rattle.sheet_ring.proofs.Standing.{rows_laid}
use Rattle.sheet_ring.proofs.lay_on.Goals as goal

pub returns : goal.returns
returns c =
    let r = c in
    let to = r.args.to.now in
    let full : length to ≡ 67 = omega arith in
    rows_laid to full r.rows_on.ensures c.pairs_on.ensures (words_length 32 _)

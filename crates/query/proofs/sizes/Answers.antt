-- `query::sizes` meets its contract: as many codes as there are count, and no line is left out.
-- Assumes nothing.
use native.Mathlib.Omega.{arith}
use mathlib.Core.Path.{sym}
use lib.Seq.{length-take-le}
use Rattle.query.proofs.Limits.{sizes_told}
use Rattle.query.proofs.sizes.Goals as goal

pub slice_bounds-part-end : goal.slice_bounds-part-end
slice_bounds-part-end c = sym (length-take-le _ _ (omega (arith, c.min-m.ensures)))

pub returns : goal.returns
returns c =
    let a = c.args in
    sizes_told a.n c.min-m.result a.codes.now c.claimed_in-d.result c.sizes_of.result c.min-m.ensures c.claimed_in-d.ensures
    c.sizes_of.ensures

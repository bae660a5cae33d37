-- `sheet_fits::row_below` meets its contract: a machine word has no bit from 64 on.
-- Assumes nothing.
use Prim.Native.Nat.{◌+◌, ◌^◌}
use native.Mathlib.Omega.{arith}
use mathlib.Core.Path.{◌∙◌, ap}
use lib.Dec.{ltb}
use Rattle.sheet_fits.proofs.Rows.{row_test}
use Rattle.sheet_fits.proofs.row_below.Goals as goal

pub returns : goal.returns
returns c =
    let least' = c.least in
    let args' = c.args in
    c.below.ensures ∙ ap (λ k. ltb args'.m (2 ^ (k + 1))) least'.ensures ∙ row_test args'.m args'.r (omega arith)

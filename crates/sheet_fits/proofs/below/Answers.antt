-- `sheet_fits::below` meets its contract: a machine word has no bit from n on where it is no more than all bits below n.
-- Assumes nothing.
use native.Mathlib.Omega.{arith}
use mathlib.Core.Path.{◌∙◌, ap}
use lib.Dec.{leb}
use Rattle.sheet_fits.proofs.Rows.{below_test}
use Rattle.sheet_fits.proofs.below.Goals as goal

pub returns : goal.returns
returns c = ap (leb c.args.s) c.below.ensures ∙ below_test c.args.s c.args.n (omega arith)

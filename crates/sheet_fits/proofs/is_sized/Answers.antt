-- `sheet_fits::is_sized` meets its contract, by the kind of the claim.
-- Assumes nothing.
use mathlib.Core.Path.{sym, ap}
use lib.Dec.{eqb}
use Rattle.claims.specs.SheetBytes.{contents_length}
use Rattle.claims.specs.Width.{width, row_length}
use Rattle.sheet_fits.proofs.is_sized.Goals as goal

pub returns-then-ring : goal.returns-then-ring
unfolding contents_length width row_length
returns-then-ring c = ap (λ b. eqb c.args.size (contents_length b)) (sym c.if-ring.true)

pub returns : goal.returns
unfolding contents_length width row_length
returns c = ap (λ b. eqb c.args.size (contents_length b)) (sym c.if-ring.false)

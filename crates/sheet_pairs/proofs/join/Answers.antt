-- `sheet_pairs::join` meets its contract: past the end nothing is stored.
-- Assumes nothing.
use mathlib.Core.Path.{refl, sym}
use lib.Seq.{set_out}
use Rattle.sheet_pairs.specs.inner.Rows.{row_joined}
use Rattle.sheet_pairs.proofs.join.Goals as goal

pub returns-then-k-to : goal.returns-then-k-to
unfolding row_joined
returns-then-k-to c = refl

pub returns-else-k-to : goal.returns-else-k-to
unfolding row_joined
returns-else-k-to c = sym (set_out _ _ _ c.if-k-to.false)

-- `sheet_index::mixed` meets its contract: sums below 2 to the 33 times the factor fit a word.
-- Assumes nothing.
use Rattle.sheet_index.specs.Index.{mixed}
use mathlib.Core.Path.{refl}
use native.Mathlib.Omega.{arith}
use Rattle.sheet_index.proofs.mixed.Goals as goal

pub returns : goal.returns
unfolding mixed
returns c = (refl, omega arith)

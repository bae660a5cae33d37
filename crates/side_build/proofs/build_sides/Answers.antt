-- `side_build::build_sides` meets its contract.
-- Assumes nothing.
use Rattle.memory.specs.Memory.{zeros}
use mathlib.Core.Path.{◌∙◌, ap}
use native.Mathlib.Omega.{arith}
use Rattle.side_build.proofs.build_sides.Goals as goal

pub fill_sides-requires : goal.fill_sides-requires
fill_sides-requires c = (c.clear.ensures ∙ ap zeros (omega arith), c.clear-2.ensures ∙ ap zeros (omega arith))

pub returns : goal.returns
returns c = c.fill_sides.ensures

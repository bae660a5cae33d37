-- `arguments::nothing_behind` meets its contract. By definition.
-- Assumes nothing.
use mathlib.Core.Path.{refl}
use Rattle.arguments.specs.Arguments.{nothing_behind}
use Rattle.arguments.proofs.nothing_behind.Goals as goal

pub returns : goal.returns
unfolding nothing_behind
returns c = refl

-- `arguments::wrong_at` meets its contract. By definition.
-- Assumes nothing.
use mathlib.Core.Path.{refl}
use Rattle.arguments.specs.Arguments.{wrong_at}
use Rattle.arguments.proofs.wrong_at.Goals as goal

pub returns : goal.returns
unfolding wrong_at
returns c = refl

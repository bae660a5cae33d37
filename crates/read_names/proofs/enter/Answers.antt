-- `read_names::enter` meets its contract. Its three stores are those of the definition.
-- Assumes nothing.
use Rattle.read_names.specs.Keys.{entered}
use mathlib.Core.Path.{refl}
use borrow.Author.Rules.{rules}
use Rattle.read_names.proofs.enter.Goals as goal

pub returns : goal.returns
unfolding entered
returns c = refl

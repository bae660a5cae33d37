-- `small_graphs::next` meets its contract, the definition being the code.
-- Assumes nothing.
use mathlib.Core.Path.{refl}
use Rattle.small_graphs.specs.Numbers.{next_number}
use Rattle.small_graphs.proofs.next.Goals as goal

pub returns : goal.returns
unfolding next_number
returns c = refl

-- `graph_judge::some_event` meets its contract: the set of the events is not empty.
-- Assumes nothing.
use mathlib.Core.Path.{ap}
use mathlib.Core.Bool.{not}
use lib.Dec.{eqb}
use Rattle.graph_judge.proofs.some_event.Goals as goal

pub returns : goal.returns
returns c = ap (λ m. not (eqb m 0)) c.events_with.ensures

-- `graph_read::read` meets its contract: the fields are read into cleared memory, and after a wrong one it is cleared again.
-- Assumes nothing.
use native.Mathlib.Omega.{arith}
use mathlib.Core.Path.{◌∙◌, ap}
use Rattle.memory.specs.Memory.{zeros}
use Rattle.graph_read.proofs.SoFar.{read_whole, read_wrong, as_many}
use Rattle.graph_read.proofs.read.Goals as goal

pub add_fields-r-requires : goal.add_fields-r-requires
add_fields-r-requires c =
    (omega arith, c.clear.ensures ∙ ap zeros c.clear-arg-1.given.0.1)

pub returns-in-Ok : goal.returns-in-Ok
returns-in-Ok c =
    let f = c.add_fields-r in
    record { says = (as_many _ _ _ _ _ _ c.least.ensures (read_whole _ f.new.listed c.in-Ok.is f.ensures.says f.ensures.leaves)).0; leaves = (as_many _ _ _ _ _ _ c.least.ensures (read_whole _ f.new.listed c.in-Ok.is f.ensures.says f.ensures.leaves)).1 }

pub returns-in-Err : goal.returns-in-Err
returns-in-Err c =
    let f = c.add_fields-r in
    record { says = (as_many _ _ _ _ _ _ c.least.ensures (read_wrong _ c.clear-in-Err.new.out c.in-Err.is f.ensures.says (c.clear-in-Err.ensures ∙ ap zeros c.clear-arg-in-Err-1.given.0.1))).0; leaves = (as_many _ _ _ _ _ _ c.least.ensures (read_wrong _ c.clear-in-Err.new.out c.in-Err.is f.ensures.says (c.clear-in-Err.ensures ∙ ap zeros c.clear-arg-in-Err-1.given.0.1))).1 }

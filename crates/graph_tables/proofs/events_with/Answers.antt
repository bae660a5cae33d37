-- `graph_tables::events_with` meets its contract: the atoms stand behind the rows.
-- Assumes nothing.
use Prim.Native.Nat.{◌-◌}
use native.Mathlib.Omega.{arith}
use lib.ListN.{length, drop, length-drop}
use lib.Seq.{take_all}
use Rattle.graph_tables.proofs.Steps.{events_read}
use Rattle.graph_tables.proofs.events_with.Goals as goal

pub returns : goal.returns
returns c =
    let a = c.args in
    events_read a.listed.now _ a.n a.s _
    (take_all (length a.listed.now - 1024) (drop 1024 a.listed.now) (omega (arith, length-drop 1024 a.listed.now))) c.events_in.ensures

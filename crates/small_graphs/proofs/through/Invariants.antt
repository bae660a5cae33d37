use Prim.Native.Nat.{◌≤◌}
use Rattle.small_graphs.specs.Relations.{Edges}
use Rattle.small_graphs.proofs.Rounds.{Sofar}
use Rattle.small_graphs.proofs.through.Given as goal

abbrev pub invariant-loop-from : goal.invariant-loop-from
invariant-loop-from l = (l.from ≤ 8) × Edges l.all (Sofar l.r l.middle l.from)

use Prim.Native.Nat.{◌≤◌}
use Rattle.small_graphs.specs.Relations.{Edges, through}
use Rattle.small_graphs.proofs.closed.Given as goal

abbrev pub invariant-loop-middle : goal.invariant-loop-middle
invariant-loop-middle l = (l.middle ≤ 8) × Edges l.all (through l.middle l.r)

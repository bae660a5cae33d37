-- `side_atoms::run` meets its contract. The invariant: the codes that are left, run on the stack as it is, give the stack that all
-- of them give on the empty one.
-- Assumes nothing.
use Prim.Native.Nat.{◌≤◌, min}
use mathlib.Core.Path.{◌≡◌}
use mathlib.Core.List.{[]}
use lib.ListN.{length}
use lib.Seq.{slice}
use Rattle.side_atoms.specs.Tests.{stacked, run_test}
use Rattle.side_atoms.proofs.run.Given as goal

abbrev pub invariant-loop-i : goal.invariant-loop-i
invariant-loop-i l =
    (l.n ≤ length l.stack) × (length l.stack ≡ length l.initial.stack) × (l.end ≡ min l.to (length l.codes))
    × (run_test (length l.initial.stack) (slice l.i l.end l.codes) (stacked l.stack l.n) ≡ run_test (length l.initial.stack) (slice l.from l.to l.codes) [])

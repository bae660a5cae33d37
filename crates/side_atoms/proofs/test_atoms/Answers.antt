-- `side_atoms::test_atoms` meets its contract: with room for as many sets as there are codes, more room would change nothing.
-- Assumes nothing.
use Rattle.side_atoms.proofs.Room.{run_alike}
use Rattle.memory.specs.Memory.{zeros}
use Rattle.side_atoms.specs.Tests.{top, test_set}
use lib.ListN.{length}
use lib.Seq.{slice}
use mathlib.Core.List.{[]}
use mathlib.Core.Path.{◌∙◌, ap}
use native.Mathlib.Omega.{arith}
use Rattle.side_atoms.proofs.test_atoms.Goals as goal

pub returns : goal.returns
unfolding test_set
returns c =
    let r = c.run-set in
    let s = c in
    let a = s.args in (
      r.ensures ∙ ap top (run_alike (length a.stack.now) 4096 (slice a.from a.to a.codes.now) [] (omega (arith, s.requires.0)) (omega (arith, s.requires.1))),
      c.clear.ensures ∙ ap zeros r.auto.stack,
    )

-- `dot::put_tests` meets its contract. The invariant: the tests that are left, put into the memory as it is, are all of them put into the memory at the
-- start.
-- Assumes nothing.
use Prim.Native.Nat.{◌≤◌}
use Rattle.kat.specs.Lists.{upto}
use Rattle.claims.specs.GraphWriting.{joined}
use Rattle.print_line.proofs.Pieces.{Left}
use Rattle.dot.specs.DotText.{tests_text}
use Rattle.dot.proofs.Lines.{a_test}
use Rattle.dot.proofs.put_tests.Given as goal

abbrev pub invariant-loop-i : goal.invariant-loop-i
invariant-loop-i l = (l.i ≤ 6) × Left l.initial.out l.at (tests_text l.text l.atom) l.out l.to (joined (a_test l.text l.atom) (upto l.i 6))

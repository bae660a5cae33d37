-- `case_lines::number` meets its contract. It goes over at most 20 digits: the number so far and the digits that are left are the whole.
-- Assumes nothing.
use Prim.Native.Nat.{◌≤◌}
use Rattle.case_lines.proofs.FieldLaws.{Left}
use Rattle.case_lines.proofs.number.Given as goal

abbrev pub invariant-loop-i : goal.invariant-loop-i
invariant-loop-i l = (l.i ≤ 20) × Left l.n l.text l.i l.value

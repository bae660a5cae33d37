-- `sheet_pairs::opened_at` meets its contract. The invariant: the pairs that open so far, and those that the rows left open, are all of them.
--
-- Assumes nothing.
use Prim.Native.Nat.{◌+◌, ◌^◌, ◌<◌}
use mathlib.Core.Path.{◌≡◌}
use Rattle.standings.specs.Steps.{enders}
use Rattle.sheet_standings.specs.RingCells.{opened}
use Rattle.sheet_pairs.proofs.Opened.{passing, row_ends}
use Rattle.sheet_pairs.proofs.opened_at.Given as goal

abbrev pub invariant-loop-p : goal.invariant-loop-p
invariant-loop-p l =
    (l.set < 2 ^ l.p) × (l.e ≡ enders l.right l.a) × (l.set + passing (row_ends l.right l.from l.a) l.p ≡ opened l.right l.from l.a)

-- `sheet_pairs::spread` meets its contract. The invariant: the rows left, sent on into the memory as it is, give what all rows give on
-- the memory at the start.
-- Assumes nothing.
use Prim.Native.Nat.{ℕ}
use mathlib.Core.Path.{◌≡◌}
use lib.ListN.{length}
use Rattle.kat.specs.Lists.{upto}
use Rattle.claims.specs.Standings.{Letter}
use Rattle.sheet_standings.specs.RingCells.{row_n}
use Rattle.sheet_pairs.specs.inner.Rows.{spread_over}
use Rattle.sheet_pairs.proofs.spread.Given as goal

abbrev pub letter : ℕ → ℕ → Letter
letter a r = record { atom = a; relation = r }

abbrev pub invariant-loop-o : goal.invariant-loop-o
invariant-loop-o l =
    (length l.to ≡ 32)
    × (spread_over l.right (letter l.a l.r) (row_n l.from) (upto l.o 32) l.to ≡ spread_over l.right (letter l.a l.r) (row_n l.from) (upto 1 32) l.initial.to)

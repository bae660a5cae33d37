-- `sheet_word::completing` meets its contract. The invariant: the word that is left completes a refuting word, after the standing as it
-- is, where the whole does. The
-- measure is how many bytes are left.
-- Assumes nothing.
use Prim.Native.Nat.{ℕ, ◌^◌, ◌-◌, ◌≤◌, ◌<◌}
use native.Mathlib.Omega.{arith}
use mathlib.Core.Path.{◌≡◌, refl, sym, ◌∙◌, ap, ap₂}
use lib.ListN.{length, get_or, take, drop}
use borrow.Author.Tests.{not-true, not-false}
use Rattle.kat.specs.Lists.{member}
use Rattle.claims.specs.Query.{bit}
use Rattle.claims.specs.Passing.{completes}
use Rattle.sheet_standings.specs.Layout.{cell_count}
use Rattle.sheet_standings.specs.CellSystem.{onward_cells, finals_cells, cell_system}
use Rattle.sheet_word.specs.ByteWords.{word_read}
use Rattle.sheet_word.proofs.Steps.{dead_stops, live_goes_on, last_decides}
use Rattle.sheet_word.proofs.completing.Given as goal

abbrev pub invariant-loop-i : goal.invariant-loop-i
invariant-loop-i l =
    (l.i ≤ length l.word) × ((j : ℕ) → get_or (take (cell_count l.f.ring) l.t) j 0 < 2 ^ 32)
    × (completes (cell_system l.f.ring l.f.right l.f.live l.f.relations l.left l.right) (take (cell_count l.f.ring) l.t) (word_read (drop l.i l.word))
    ≡ completes (cell_system l.f.ring l.f.right l.f.live l.f.relations l.left l.right) (take (cell_count l.f.ring) l.initial.t)
    (word_read (drop l.from l.word)))

abbrev pub decreases-loop-i : goal.decreases-loop-i
decreases-loop-i l = length l.word - l.i

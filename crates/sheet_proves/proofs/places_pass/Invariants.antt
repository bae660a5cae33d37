-- `sheet_proves::places_pass` meets its contract. The invariant: the standings left pass exactly where all do.
-- Assumes nothing.
use mathlib.Core.Path.{◌≡◌}
use Rattle.kat.specs.Lists.{upto, every}
use Rattle.sheet_proves.specs.inner.Standings.{place_passes, places_pass}
use Rattle.sheet_proves.proofs.places_pass.Given as goal

abbrev pub invariant-loop-i : goal.invariant-loop-i
invariant-loop-i l =
    every (place_passes l.t.of.facts l.left l.right l.sheet l.t.of.base l.t.of.count l.t.masks) (upto l.i l.t.of.count)
    ≡ places_pass l.t.of.facts l.left l.right l.sheet l.t.of.base l.t.of.count l.t.masks

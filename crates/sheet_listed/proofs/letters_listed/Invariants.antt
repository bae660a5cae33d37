-- `sheet_listed::letters_listed` meets its contract. The invariant: the relations left pass exactly where all do.
-- Assumes nothing.
use mathlib.Core.Path.{◌≡◌}
use lib.ListN.{take}
use Rattle.kat.specs.Lists.{upto, every}
use Rattle.sheet_standings.specs.Layout.{cell_count}
use Rattle.sheet_listed.specs.Listed.{part_cells, relation_listed, letters_listed}
use Rattle.sheet_listed.proofs.letters_listed.Given as goal

abbrev pub invariant-loop-r : goal.invariant-loop-r
invariant-loop-r l =
    every
    (relation_listed l.t.of.facts l.left l.right (part_cells l.t.of.facts.ring l.sheet l.t.of.base l.t.of.count) l.t.first
    (take (cell_count l.t.of.facts.ring) l.from) l.t.masks)
    (upto l.r l.t.of.facts.relations)
    ≡ letters_listed l.t.of.facts l.left l.right (part_cells l.t.of.facts.ring l.sheet l.t.of.base l.t.of.count) l.t.first
    (take (cell_count l.t.of.facts.ring) l.from) l.t.masks

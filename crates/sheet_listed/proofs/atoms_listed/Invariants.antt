-- `sheet_listed::atoms_listed` meets its contract. The invariant: the atoms left pass exactly where all do. The measure is the count of ones
-- of the set left.
-- Assumes nothing.
use Prim.Native.Nat.{◌^◌, ◌<◌}
use mathlib.Core.Path.{◌≡◌}
use lib.Count.{ones}
use lib.ListN.{take}
use Rattle.kat.specs.Lists.{every}
use Rattle.bits.specs.Sets.{members}
use Rattle.sheet_standings.specs.Layout.{cell_count}
use Rattle.sheet_listed.specs.Listed.{part_cells, letter_listed, atoms_listed}
use Rattle.sheet_listed.proofs.atoms_listed.Given as goal

abbrev pub invariant-loop-rest : goal.invariant-loop-rest
invariant-loop-rest l =
    (l.rest < 2 ^ 64)
    × (every
    (letter_listed l.l.of.facts.ring l.left l.right (part_cells l.l.of.facts.ring l.sheet l.l.of.base l.l.of.count) l.l.first
    (take (cell_count l.l.of.facts.ring) l.from) l.l.relation)
    (members l.rest)
    ≡ atoms_listed l.l.of.facts.ring l.left l.right (part_cells l.l.of.facts.ring l.sheet l.l.of.base l.l.of.count) l.l.first
    (take (cell_count l.l.of.facts.ring) l.from) l.l.relation l.l.atoms)

abbrev pub decreases-loop-rest : goal.decreases-loop-rest
decreases-loop-rest l = ones l.rest

-- The letters of one relation that are tried, as one function of this crate hands them to the other. (Document 01, "Standings".)
-- Assumes nothing.
use Rattle.std.specs.Prelude.{ℕ}
use Rattle.sheet_listed.specs.declared.Trial.{Trial}
use Rattle.sheet_listed.specs.declared.Letters.{Letters}
use Rattle.sheet_listed.specs.Listed.{atoms_tried}

-- of relation r: the atoms to try before it ("Standings")
abbrev pub letters_of : Trial → ℕ → Letters
letters_of t r = record { of = t.of; first = t.first; relation = r; atoms = atoms_tried t.of.facts t.first t.masks r }

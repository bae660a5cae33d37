-- Sets of atoms as words: there are at most 64 atoms, and atom a is in a set where bit a of its number is set. (Document 01, "Words".)
-- Assumes nothing.
use Rattle.std.specs.Prelude.{ℕ, ◌-◌, ◌^◌, Bool}
use Rattle.kat.specs.Lists.{upto, filter}
use Rattle.claims.specs.Fields.{set_number}

-- the set of the atoms below 64 that pass the test ("Words")
unfoldable pub atoms_of : (ℕ → Bool) → ℕ
atoms_of f = set_number 0 (filter f (upto 0 64))

-- all of them, as a word
abbrev pub all_atoms : ℕ
all_atoms = 2 ^ 64 - 1

-- The records of a path claim's standings: the blank one, and where one is found. (Document 01, "Standings".)
-- Assumes nothing.
use Rattle.std.specs.Prelude.{ℕ, ◌<◌, ◌≡◌, Option, Some, None, List, get_or}
use Rattle.search_records.specs.declared.Record.{Record}

-- the record that is all zero
abbrev pub blank : Record
blank = record { p = 0; s = 0; parent = 0; letter = 0 }

-- the record at place i has this P and this S
abbrev pub HasBoth : List Record → ℕ → ℕ → ℕ → Type 0
HasBoth xs p s i = ((get_or xs i blank).p ≡ p) × ((get_or xs i blank).s ≡ s)

-- the place that is found is below n and keeps this P and this S; none is found where no place below n does
abbrev pub Found : List Record → ℕ → ℕ → ℕ → Option ℕ → Type 0
Found xs n p s (Some i) = (i < n) × HasBoth xs p s i
Found xs n p s None = (i : ℕ) → i < n → HasBoth xs p s i → ⊥

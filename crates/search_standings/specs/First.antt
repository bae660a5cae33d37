-- The lowest of a rising list of atoms, as the search asks for it: 64 where there is none. (Document 01, "Standings".)
-- Assumes nothing.
use Rattle.std.specs.Prelude.{ℕ, Bool, not, ◌&&◌, List, [], ◌∷◌}
use Rattle.kat.specs.Lists.{filter}
use Rattle.bits.specs.Sets.{members}
use Rattle.standings.specs.Steps.{null_at}

-- the first of the list, or d
abbrev pub first_or : ℕ → List ℕ → ℕ
first_or d [] = d
first_or d (a ∷ as') = a

-- atom a is a refuting word of length 0 ("Standings")
unfoldable pub alone_at : List ℕ → List ℕ → ℕ → Bool
alone_at left right a = null_at left a && not (null_at right a)

-- the lowest of the live atoms that is one, or 64 ("Standings")
unfoldable pub first_alone : List ℕ → List ℕ → ℕ → ℕ
first_alone left right live = first_or 64 (filter (alone_at left right) (members live))
